pub mod Arms
pub mod Example
