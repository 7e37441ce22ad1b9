pub mod Called
pub mod Entering
pub mod Meant
pub mod Put
pub mod Whole
