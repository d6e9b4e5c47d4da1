-- What functions inside promise each other, and what the proofs are made of. None of it has to be believed.
pub mod Strings
pub mod Numbers
pub mod Words
pub mod Machine
pub mod Reading
pub mod Pieces
pub mod Events
pub mod Tokens
pub mod Marks
pub mod TokensLeft
pub mod Runs
