pub mod Stack
pub mod Samples
