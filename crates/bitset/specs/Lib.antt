pub mod Words
pub mod Places
pub mod Rest
pub mod Judge
