-- What the entry points answer, answers coded as numbers; and what can be read back from the numbers and the value buffer.
pub mod Codes
pub mod Answers
pub mod Saying
pub mod Asked
