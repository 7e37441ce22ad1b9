pub mod Tokens
pub mod Read
pub mod One
pub mod Calls
