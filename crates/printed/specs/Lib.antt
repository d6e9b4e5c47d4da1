-- Which tables JSON texts make.
-- The promises rest on these definitions, and none of these on machinery.
pub mod Grouped
pub mod Machinery
