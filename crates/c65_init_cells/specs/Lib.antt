pub mod Addresses
pub mod Causes
pub mod Cells
pub mod Items
pub mod Parts
pub mod Sinks
pub mod Values
