pub mod Compiled
pub mod Front
pub mod Joined
pub mod Refused
