pub mod Params
pub mod Entered
pub mod Lines
