pub mod Plain
pub mod Readers
pub mod Lent
pub mod Address
pub mod Words
