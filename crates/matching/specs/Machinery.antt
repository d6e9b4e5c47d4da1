-- What functions inside promise each other, and what the proofs are made of. None of it has to be believed.
pub mod Codes
pub mod SymbolsLeft
pub mod Rows
pub mod Words
pub mod Ranges
pub mod Steps
