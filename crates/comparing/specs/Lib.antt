-- What comparing two tables means. It speaks of requests and of the two tables.
-- The promises rest on these definitions, and none of these on machinery.
pub mod Order
pub mod Requests
pub mod Gaps
pub mod Counts
pub mod Columns
pub mod Answers
pub mod Compared
pub mod Outcomes
pub mod Means
pub mod Machinery
