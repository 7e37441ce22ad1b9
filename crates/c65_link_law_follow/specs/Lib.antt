pub mod Agree
pub mod Laid
pub mod Laws
pub mod Example
