pub mod CallLine
pub mod Lines
pub mod Changes
pub mod Block
pub mod Fields
pub mod Records
pub mod Words
