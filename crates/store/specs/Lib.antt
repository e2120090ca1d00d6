pub mod Plain
pub mod Stores
pub mod Tended
pub mod Words
pub mod Lends
