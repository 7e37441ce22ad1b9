pub mod Declared
pub mod Units
