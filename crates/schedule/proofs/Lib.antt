pub mod BellCases
pub mod BellLaws
pub mod LinkCases
pub mod WordsCases
pub mod WalkLaws
pub mod OverlayLaws
