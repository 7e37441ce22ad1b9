pub mod Calls
pub mod Marks
pub mod Ways
pub mod First
