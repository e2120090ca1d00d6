pub mod Plain
pub mod Interrupts
pub mod Words
