pub mod Settled
pub mod Scanned
pub mod Lines
pub mod Given
pub mod Pieces
pub mod Answers
pub mod Runs
