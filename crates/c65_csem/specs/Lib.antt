pub mod Library
pub mod Places
pub mod Statements
pub mod Trees
pub mod Typed
pub mod Units
pub mod Views
