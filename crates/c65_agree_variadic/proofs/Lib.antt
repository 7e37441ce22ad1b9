pub mod Entered
pub mod Moves
pub mod Lines
pub mod Passed
pub mod Whole
pub mod Called
pub mod Given
