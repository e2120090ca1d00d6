pub mod CheckLaws
pub mod TestLaws
pub mod KindLaws
pub mod RowsCases
pub mod RowLaws
pub mod ResultLaws
