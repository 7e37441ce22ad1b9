pub mod Near
pub mod Objects
pub mod Trees
