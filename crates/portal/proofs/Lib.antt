-- What the proofs of the entry points share, and what they promise.
pub mod Flags
pub mod Fitting
pub mod JudgeBack
pub mod GapsBack
pub mod ShownStrings
pub mod AskedBack
pub mod GapsShown
pub mod AskedJudged
pub mod JsonBack
pub mod Promises
