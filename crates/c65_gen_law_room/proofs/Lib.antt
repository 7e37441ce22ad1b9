pub mod Placed
pub mod Marked
pub mod Entries
