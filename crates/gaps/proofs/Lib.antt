-- Laws behind the gap program's contracts.
pub mod Splitting
pub mod Promises
