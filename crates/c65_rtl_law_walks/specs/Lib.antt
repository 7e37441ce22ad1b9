pub mod Joined
pub mod Inside
