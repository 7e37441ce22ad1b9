pub mod Addresses
pub mod Conversions
pub mod Fields
pub mod Loads
pub mod Numbers
pub mod Places
pub mod Stores
pub mod Words
