pub mod Sets
pub mod Puts
pub mod Operations
