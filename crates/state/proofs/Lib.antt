pub mod Arrays
pub mod RangesCases
pub mod RangesLaws
