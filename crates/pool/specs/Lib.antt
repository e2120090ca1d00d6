pub mod Plain
pub mod EhciChain
pub mod Places
pub mod Transfers
pub mod Chains
pub mod RecordCalls
pub mod Words
