pub mod Bell
pub mod Links
pub mod Walks
pub mod Words
