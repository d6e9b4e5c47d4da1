-- The laws of columns: a file for each concept.
pub mod ColumnContents
pub mod Widths
pub mod StateWalk
pub mod Edges
pub mod LeftInColumn
pub mod Laying
pub mod PlanNetworks
pub mod PlanDecides
pub mod PlanSteps
pub mod PlanShort
pub mod PlansLaid
pub mod LastPositions
pub mod PrintWords
