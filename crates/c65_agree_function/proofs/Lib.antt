mod Ends
pub mod Body
mod Mains
pub mod Given
