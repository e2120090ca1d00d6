pub mod EhciRegisters
pub mod Bits
pub mod Writes
