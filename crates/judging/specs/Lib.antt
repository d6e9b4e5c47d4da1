-- What judging means: requests, what a statement says of one, and the judge's answer.
-- The promises rest on these definitions, and none of these on machinery.
pub mod Requests
pub mod Meaning
pub mod Judging
pub mod Machinery
