pub mod Grows
pub mod Units
