-- The states of a column: where they lie in the workspace, and what exploring them means. All of it is
-- machinery: no promise mentions it.
pub mod Machinery
