pub mod Walk
pub mod Tables
pub mod Linked
pub mod Apart
