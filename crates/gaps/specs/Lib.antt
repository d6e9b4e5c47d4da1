-- What the gap program prints for which input and answer (RULES 8).
pub mod Split
pub mod Lines
