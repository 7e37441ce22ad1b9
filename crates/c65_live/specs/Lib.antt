pub mod Live
pub mod Tables
pub mod Flows
pub mod Sweeps
pub mod Renewals
pub mod Regions
pub mod Samples
