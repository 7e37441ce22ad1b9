pub mod Slots
pub mod Turns
pub mod Frames
pub mod Work
pub mod Laws
