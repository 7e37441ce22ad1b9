pub mod Leading
pub mod Choosing
pub mod Longs
pub mod Signs
pub mod Spaces
pub mod Numbers
