pub mod Samples
pub mod Unused
