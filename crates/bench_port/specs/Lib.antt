pub mod Numbers
pub mod Border
pub mod Opens
