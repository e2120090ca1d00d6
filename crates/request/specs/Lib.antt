pub mod Plain
pub mod Submit
pub mod Writeback
pub mod Words
