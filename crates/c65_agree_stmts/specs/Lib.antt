pub mod Effects
pub mod Calling
pub mod Objects
pub mod Landings
pub mod Choices
pub mod Trees
pub mod Laws
