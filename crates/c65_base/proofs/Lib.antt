pub mod NameLaws
pub mod Keys
mod FormatSamples
