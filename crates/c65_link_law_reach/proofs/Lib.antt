pub mod Units
pub mod Steps
pub mod Local
pub mod Calls
pub mod Pointers
pub mod Standing
pub mod Reach
