pub mod Processors
pub mod Made
