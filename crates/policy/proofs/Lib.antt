-- What the proofs of several functions share, and the promises: a file for each concept.
pub mod Copying
pub mod NetworkTexts
pub mod LongValues
pub mod Standing
pub mod FirstWishes
pub mod DryRuns
pub mod Pouring
pub mod Answering
pub mod NetworksAre
pub mod Numbers
pub mod Promises
