pub mod Walks
pub mod Listing
pub mod Parts
pub mod Knots
pub mod Beginnings
pub mod Headed
