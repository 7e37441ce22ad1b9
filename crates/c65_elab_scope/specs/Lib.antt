pub mod Declaring
pub mod Parts
pub mod Scopes
pub mod Tables
