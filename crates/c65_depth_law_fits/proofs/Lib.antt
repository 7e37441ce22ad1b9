pub mod Passed
pub mod Attained
pub mod Fitting
pub mod Exactly
pub mod Typed
pub mod Runs
