pub mod Plain
pub mod Replays
pub mod Words
