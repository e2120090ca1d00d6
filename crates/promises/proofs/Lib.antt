pub mod effects
pub mod invariants
pub mod any_machine
pub mod theorems
