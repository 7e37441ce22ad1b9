pub mod Bytes
pub mod Runs
pub mod Followed
pub mod Apart
