pub mod Numbers
pub mod Ways
pub mod Tests
pub mod Choices
pub mod Ranges
