-- Why a printed text says what was printed: a file for each concept.
pub mod Printing
pub mod NetworksRead
pub mod Marks
pub mod ValuesSaid
pub mod Names
pub mod Grouping
pub mod ConditionsSaid
pub mod ColumnForms
pub mod RowsSaid
pub mod DocumentsSaid
pub mod Addresses
pub mod EveryTable
pub mod OnceInTrees
pub mod DocumentsGrouped
pub mod Answering
pub mod Promises
