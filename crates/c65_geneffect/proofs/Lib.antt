pub mod Known
pub mod Later
pub mod Placed
