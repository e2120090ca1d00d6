pub mod EndpointCases
pub mod EndpointLaws
pub mod WordsLaws
pub mod LimitLaws
pub mod WordsFits
pub mod WordsTells
pub mod WordsKnown
