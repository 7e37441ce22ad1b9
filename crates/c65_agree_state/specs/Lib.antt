pub mod World
pub mod Fixed
pub mod Sizes
pub mod Joins
pub mod Follows
pub mod Exprs
pub mod Laws
