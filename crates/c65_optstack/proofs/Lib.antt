mod Shorter
mod Unstacked
pub mod Good
mod Turns
