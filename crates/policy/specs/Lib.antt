-- What the reader of policies answers.
-- The promises rest on these definitions, and none of these on machinery.
pub mod Networks
pub mod Answers
pub mod Machinery
