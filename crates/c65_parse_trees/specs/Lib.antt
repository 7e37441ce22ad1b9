pub mod Levels
pub mod Plugs
pub mod Names
pub mod Signs
pub mod Listings
pub mod Lists
pub mod Optional
