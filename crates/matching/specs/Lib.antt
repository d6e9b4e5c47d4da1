-- What matching means: symbols and readings, when symbols match a string, states, and networks.
-- The promises rest on these definitions, and none of these on machinery.
pub mod Symbols
pub mod Matches
pub mod State
pub mod Network
pub mod Machinery
