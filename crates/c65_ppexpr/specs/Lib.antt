pub mod Arithmetic
pub mod Expressions
pub mod Readings
pub mod Resolved
pub mod ConditionLines
