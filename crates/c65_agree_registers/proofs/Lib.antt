pub mod Addresses
pub mod Check
pub mod Entries
pub mod Loads
pub mod Moves
pub mod Unchecked
