pub mod EhciQtd
pub mod EhciPortsc
pub mod Ports
pub mod Tokens
pub mod Plans
pub mod Chunks
pub mod Overlay
