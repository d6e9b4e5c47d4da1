pub mod Laying
pub mod Text
