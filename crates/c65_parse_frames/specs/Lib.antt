pub mod Signs
pub mod Frames
pub mod Lists
pub mod Views
