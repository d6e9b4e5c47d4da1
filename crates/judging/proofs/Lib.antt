-- Laws for the judge and for the crates above: a file for each concept.
pub mod RowSets
pub mod Faults
pub mod Refusing
pub mod Walking
pub mod Asking
pub mod ByColumn
pub mod Promises
