pub mod Endings
pub mod Behind
pub mod Left
