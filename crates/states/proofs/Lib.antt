-- The laws of states: a file for each concept.
pub mod Parts
pub mod Below
pub mod RowsInWords
pub mod Stepping
pub mod OneSearch
pub mod BitsOfWords
pub mod CodeBytes
pub mod ByteSets
pub mod NamedBytes
pub mod Followers
pub mod MarkedBytes
pub mod TakenRows
pub mod Trying
pub mod StringsOfRows
pub mod OneLaying
pub mod Used
