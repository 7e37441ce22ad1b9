mod Quiet
mod Shorter
pub mod Good
