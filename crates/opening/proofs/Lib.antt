pub mod HeadLaws
pub mod OpenCases
pub mod OpenLaws
pub mod OpenPool
pub mod WordsCases
pub mod WordsLaws
pub mod WordsGood
pub mod WordsSame
