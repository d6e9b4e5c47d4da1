-- What the proofs are made of: statements printed as JSON texts. None of it has to be believed.
pub mod Values
pub mod NetworkTexts
pub mod Groups
pub mod Plans
pub mod Makes
