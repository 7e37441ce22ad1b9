pub mod Coded
pub mod Extents
pub mod Placed
