pub mod Rows
pub mod Bytes
pub mod Fits
pub mod Local
pub mod Stack
pub mod Follow
pub mod Counting
