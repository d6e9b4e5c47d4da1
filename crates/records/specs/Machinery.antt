-- What functions inside promise each other, and what the proofs are made of. None of it has to be believed.
pub mod Walkers
pub mod Streams
pub mod Rows
pub mod Cursors
pub mod WishesLeft
