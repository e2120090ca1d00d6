pub mod CoreCases
pub mod SlotsCases
pub mod TakesCases
pub mod HeadsCases
pub mod FramesCases
