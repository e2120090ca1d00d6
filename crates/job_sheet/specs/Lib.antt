pub mod Few
pub mod Sheets
pub mod Reading
pub mod Listing
pub mod Outcomes
