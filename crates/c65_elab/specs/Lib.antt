pub mod Constants
pub mod Headings
pub mod Items
pub mod Naming
pub mod Operators
pub mod Places
pub mod Typing
