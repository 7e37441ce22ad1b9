pub mod Steps
pub mod States
pub mod Stored
pub mod Assigned
pub mod Widened
