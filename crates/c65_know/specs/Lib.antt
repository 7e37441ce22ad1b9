pub mod Notes
pub mod Rows
pub mod Known
pub mod Index
pub mod Samples
