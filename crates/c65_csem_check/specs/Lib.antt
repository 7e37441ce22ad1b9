pub mod Contexts
pub mod Expressions
pub mod Statements
pub mod Kinds
pub mod Units
