pub mod SlotCases
pub mod SlotLaws
