pub mod Stops
pub mod Digits
pub mod Reading
pub mod Writing
pub mod Arguments
pub mod Format
pub mod Widths
