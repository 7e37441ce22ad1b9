pub mod Joined
pub mod Constants
