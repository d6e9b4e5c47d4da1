-- The laws of the two questions.
pub mod Lowest
pub mod BothRead
pub mod NotWide
pub mod Narrowing
pub mod Answering
pub mod WorkspaceLeft
