pub mod Followed
pub mod Scratch
pub mod Parts
pub mod Nodes
pub mod Leaves
pub mod Tests
pub mod Yields
