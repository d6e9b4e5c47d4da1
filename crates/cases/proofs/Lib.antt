-- What the proofs of several functions share.
mod OneByOne
mod Scanning
pub mod OneThroughout
