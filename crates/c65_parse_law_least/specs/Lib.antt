pub mod Viable
pub mod Calls
