pub mod Headers
pub mod Search
pub mod Counts
pub mod Finding
pub mod IncludeLines
