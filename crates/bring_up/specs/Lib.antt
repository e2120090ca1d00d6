pub mod Plain
pub mod BringUp
pub mod Runs
pub mod Words
