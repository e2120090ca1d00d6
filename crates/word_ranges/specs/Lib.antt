pub mod Bounds
pub mod Seen
pub mod Judge
