-- What functions inside promise each other, and what the proofs are made of. None of it has to be believed.
pub mod Rows
pub mod Walk
pub mod Verdict
pub mod Faults
