pub mod Among
pub mod Distinct
pub mod Marks
mod Placed
pub mod Arrived
pub mod Homes
pub mod Apart
pub mod Sizes
pub mod Own
pub mod Lying
pub mod Lasting
mod Landed
pub mod Params
pub mod Begins
mod Counted
mod Quiet
mod Jumps
mod Rooms
pub mod Lines
mod Parts
pub mod Given
mod Entries
mod Few
