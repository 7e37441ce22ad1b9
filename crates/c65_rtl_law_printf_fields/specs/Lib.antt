pub mod Choosing
pub mod Signs
pub mod Numbers
pub mod Spaces
