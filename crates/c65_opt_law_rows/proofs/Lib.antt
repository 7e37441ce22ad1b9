pub mod Mixed
pub mod Rows
mod Copies
mod Texts
mod Pairs
mod Formats
pub mod Routines
