pub mod Alike
pub mod LineReads
pub mod Lists
pub mod Actions
pub mod Definitions
pub mod Units
