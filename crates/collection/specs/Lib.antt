pub mod Plain
pub mod Answers
pub mod Unlinks
pub mod Asks
pub mod Calls
pub mod Examples
pub mod Words
