pub mod Arguments
pub mod Functions
pub mod Calls
