pub mod Counts
pub mod Finding
pub mod Missing
mod Short
