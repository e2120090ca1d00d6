pub mod BitLaws
pub mod FieldLaws
pub mod WritesLaws
