pub mod Keep
pub mod Read
pub mod Areas
pub mod Moved
