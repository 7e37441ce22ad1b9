pub mod Changes
pub mod Spots
pub mod Stepping
