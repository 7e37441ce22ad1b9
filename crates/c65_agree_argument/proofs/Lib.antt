pub mod Arguments
pub mod Over
pub mod Passed
pub mod Pushed
pub mod Scalars
