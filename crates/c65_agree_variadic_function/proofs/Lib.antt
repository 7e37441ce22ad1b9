pub mod Arguments
pub mod Moved
pub mod Functions
mod Calls
