pub mod Manners
pub mod Laws
