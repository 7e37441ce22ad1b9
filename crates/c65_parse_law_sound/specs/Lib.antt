pub mod Derived
pub mod Calls
pub mod Limits
pub mod Units
