pub mod Kept
pub mod Answers
pub mod Hooks
pub mod Writes
pub mod Arguments
pub mod Moves
pub mod Runs
