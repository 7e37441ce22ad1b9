pub mod Constants
pub mod Growth
pub mod Laws
pub mod Numbers
pub mod Scoped
pub mod WellTyped
