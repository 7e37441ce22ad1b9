pub mod TableLaws
pub mod Processors
