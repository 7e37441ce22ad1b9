pub mod Library
pub mod Samples
