-- What follows for any machine from a few facts of it.
pub mod ShortRule
pub mod Walking
pub mod Leads
pub mod Pictures
pub mod Boundary
pub mod Once
pub mod Waits
pub mod WireLaws
pub mod Numbers
pub mod BoundaryExact
pub mod RegisterLaws
