mod Shortened
pub mod Good
