pub mod ActCases
pub mod TurnCases
