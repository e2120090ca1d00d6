-- What a call can do to a world: thirteen effects, and that every call has one of them.
pub mod Effects
pub mod RefusalNumbers
pub mod EffectDoor
pub mod EffectMachine
pub mod EffectRanges
pub mod EffectInterrupts
pub mod EffectEndpoints
pub mod EffectRequests
pub mod EffectOf
pub mod SlotViews
