pub mod Puts
pub mod TextLaws
pub mod DigitCases
pub mod LineLaws
pub mod NumberLaws
