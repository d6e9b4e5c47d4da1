-- Laws for the crates above: prefixes of a value, rows of bits, states, networks, the step by words and bytes that lead alike.
pub mod Prefixes
pub mod Rows
pub mod States
pub mod Columns
pub mod Networks
pub mod ByWords
pub mod MarkedRows
pub mod AlikeBytes
mod SymbolsLeft
mod Sweeps
mod WordBits
