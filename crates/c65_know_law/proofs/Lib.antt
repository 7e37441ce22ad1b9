pub mod Truths
pub mod Passing
pub mod Registers
pub mod Rows
pub mod Calls
pub mod Branches
pub mod HandedOn
pub mod Runs
