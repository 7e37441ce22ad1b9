pub mod Specifying
pub mod Stacks
pub mod Memory
pub mod Declaring
pub mod Enumerating
pub mod Turns
