pub mod Letters
pub mod Spelled
pub mod Keyed
pub mod Once
pub mod Fitting
