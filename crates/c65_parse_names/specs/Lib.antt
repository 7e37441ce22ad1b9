pub mod Scopes
pub mod Blocks
