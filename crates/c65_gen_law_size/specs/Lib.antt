pub mod Own
pub mod Data
pub mod Bulk
pub mod First
pub mod Laws
