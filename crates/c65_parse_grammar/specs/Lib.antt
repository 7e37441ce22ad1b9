pub mod Expressions
pub mod Parts
pub mod Phrases
pub mod Readings
pub mod Scopes
pub mod Spellings
pub mod Statements
