-- What is promised of the numbers of refusals.
pub mod Promises
