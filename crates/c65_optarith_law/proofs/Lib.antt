mod Bits
pub mod Agreeing
pub mod Windows
mod Carries
mod Compares
mod Masks
mod Counts
mod Kept
