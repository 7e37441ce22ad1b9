pub mod Bytes
pub mod Pointers
pub mod Laws
