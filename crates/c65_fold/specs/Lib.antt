pub mod Compute
pub mod Constants
pub mod Folded
