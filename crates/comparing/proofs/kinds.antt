-- The laws of counting kinds.
pub mod Product
pub mod Listing
pub mod FewGaps
pub mod Sums
pub mod GapRows
pub mod Counting
pub mod KindsInWords
pub mod GapPrints
pub mod Settling
