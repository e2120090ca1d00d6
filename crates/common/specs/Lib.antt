pub mod Tests
pub mod Kinds
pub mod Answers
pub mod Rows
