pub mod Params
pub mod Entries
pub mod Laws
