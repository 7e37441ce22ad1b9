pub mod Borrowed
pub mod Commands
pub mod Told
pub mod Values
pub mod Words
