pub mod Marked
pub mod Owned
pub mod TypeBytes
pub mod Data
pub mod Layouts
pub mod Bulks
pub mod First
pub mod Scoped
