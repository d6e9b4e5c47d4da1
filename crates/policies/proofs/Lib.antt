-- What the program that reads policies promises.
pub mod Room
pub mod Promises
