pub mod Changing
pub mod Effects
pub mod Placing
pub mod Setting
