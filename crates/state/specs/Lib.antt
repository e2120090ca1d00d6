pub mod Plain
pub mod Slots
pub mod Ranges
pub mod State
