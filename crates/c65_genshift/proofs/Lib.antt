pub mod Powers
pub mod Turns
