pub mod Plain
pub mod Lowest
pub mod Calls
pub mod Examples
pub mod Words
