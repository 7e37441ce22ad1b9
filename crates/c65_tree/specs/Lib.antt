pub mod Depth
pub mod Lists
pub mod Nodes
pub mod Parts
pub mod Trees
pub mod View
pub mod Optional
