pub mod Rests
pub mod Objects
