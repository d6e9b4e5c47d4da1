-- Numbers in decimal, and what laying bytes down leaves.
pub mod Decimals
pub mod Laying
