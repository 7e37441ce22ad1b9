pub mod First
pub mod Images
pub mod Lie
pub mod Push
pub mod WithArguments
