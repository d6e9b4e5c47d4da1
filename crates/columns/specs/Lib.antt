-- The values and the networks of a column.
-- The promises rest on these definitions, and none of these on machinery.
pub mod Values
pub mod Machinery
