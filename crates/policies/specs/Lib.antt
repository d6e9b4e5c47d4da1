-- What the program that reads policies prints.
pub mod Lines
