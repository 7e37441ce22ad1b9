pub mod Numbers
pub mod Product
