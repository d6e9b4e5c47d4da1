-- What a policy says, and which records it would make.
-- The promises rest on these definitions, and none of these on machinery.
pub mod Networks
pub mod Documents
pub mod Wishes
pub mod Records
pub mod Machinery
