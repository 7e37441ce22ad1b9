pub mod Passed
pub mod Few
pub mod Calling
pub mod Named
pub mod Pointed
