pub mod Plain
pub mod Heads
pub mod Hub
pub mod Opening
pub mod Words
