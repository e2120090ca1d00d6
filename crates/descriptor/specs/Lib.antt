pub mod EhciQtd
pub mod EhciQueueHead
pub mod UsbSetup
pub mod Slots
pub mod Descriptors
pub mod Heads
pub mod Setups
