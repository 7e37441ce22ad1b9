pub mod Puts
pub mod Values
pub mod Stores
pub mod Fits
