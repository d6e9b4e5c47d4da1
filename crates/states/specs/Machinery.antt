-- What functions inside promise each other, and what the proofs are made of. None of it has to be believed.
pub mod Rows
pub mod Bytes
pub mod Taken
pub mod Search
pub mod StringLeft
