pub mod Bulk
pub mod Labels
pub mod Laws
pub mod Stack
pub mod Homes
