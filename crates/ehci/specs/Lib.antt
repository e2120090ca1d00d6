pub mod Plain
pub mod Replies
pub mod Decides
pub mod Door
pub mod Refusals
pub mod WordsDoor
pub mod WordsDecides
pub mod WordsRefusals
