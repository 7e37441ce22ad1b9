pub mod Accepted
pub mod Expressions
pub mod Nodes
pub mod Targets
pub mod Reaching
