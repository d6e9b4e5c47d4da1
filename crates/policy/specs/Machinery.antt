-- What functions inside promise each other, and what the proofs are made of. None of it has to be believed.
pub mod NetworkTexts
pub mod Asking
pub mod Runs
pub mod Endings
