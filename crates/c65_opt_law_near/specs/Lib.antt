pub mod Near
pub mod Laws
