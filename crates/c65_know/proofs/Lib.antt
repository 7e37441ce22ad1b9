pub mod Passes
pub mod Gaps
mod Meets
pub mod IndexLaws
