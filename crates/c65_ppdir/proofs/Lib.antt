pub mod Reading
pub mod Acting
pub mod Standing
pub mod Commands
pub mod Placeless
pub mod Units
pub mod Wholes
pub mod Texts
