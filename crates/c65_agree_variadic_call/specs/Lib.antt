pub mod Callees
pub mod Passed
pub mod Nodes
