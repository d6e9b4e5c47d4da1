-- What functions inside promise each other, and what the proofs are made of. None of it has to be believed.
pub mod Both
pub mod ReadOnce
pub mod Contents
pub mod ContentsLeft
pub mod Lists
pub mod Edges
pub mod StateWalk
pub mod Words
pub mod Plan
pub mod LastPositions
pub mod Prints
