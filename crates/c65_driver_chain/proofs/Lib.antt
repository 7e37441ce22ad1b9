pub mod Answering
pub mod ChainLaws
