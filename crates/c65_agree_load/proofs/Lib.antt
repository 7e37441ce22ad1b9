pub mod Kept
pub mod Loads
pub mod Fetched
pub mod Fitted
pub mod Objects
pub mod Targets
