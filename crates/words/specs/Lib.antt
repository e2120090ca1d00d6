pub mod Record
pub mod View
pub mod Rest
pub mod Good
pub mod Opened
