pub mod ArmLaws
pub mod Arms
pub mod UnjudgedLaws
pub mod Example
