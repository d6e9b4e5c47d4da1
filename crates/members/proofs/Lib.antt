-- What the proofs of several functions share, the laws of the faults, and the promises: a file for each concept.
pub mod OneToken
pub mod Judging
pub mod Marked
pub mod FirstFault
pub mod Places
pub mod Order
pub mod Examples
pub mod Answering
pub mod Promises
