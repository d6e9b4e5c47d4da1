-- Laws of lines.
pub mod Laying
pub mod Decimal
