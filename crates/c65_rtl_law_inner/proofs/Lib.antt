pub mod Straight
pub mod Moves
pub mod Loads
pub mod Kept
pub mod Pops
pub mod Beside
pub mod Pushes
pub mod Longs
