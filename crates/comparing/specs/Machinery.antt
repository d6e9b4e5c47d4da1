-- What functions inside promise each other, and what the proofs are made of. None of it has to be believed.
pub mod Kinds
pub mod Product
pub mod Adding
pub mod Refusing
pub mod Survey
pub mod ShownValues
