pub mod Steps
pub mod Kept
pub mod Made
mod Arithmetic
mod Loads
mod Stores
