pub mod Initial
pub mod Library
pub mod Programs
pub mod Scopes
pub mod Tests
