pub mod Labels
pub mod Sizes
pub mod Reach
pub mod Lines
pub mod Extents
pub mod Placed
pub mod Symbols
pub mod Routines
