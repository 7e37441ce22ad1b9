mod Quiet
mod Pairs
pub mod Good
