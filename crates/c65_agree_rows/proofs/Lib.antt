pub mod Quiet
pub mod Families
pub mod Loads
pub mod Moves
