pub mod Fit
pub mod Once
