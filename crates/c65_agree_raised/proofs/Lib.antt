pub mod Rests
pub mod Objects
pub mod Addressed
