pub mod AtWindow
pub mod Compose
pub mod Inner
pub mod Lines
pub mod Lists
pub mod Near
pub mod Relation
pub mod Rewriting
pub mod Seen
pub mod Setup
pub mod Sides
pub mod Sim
pub mod Steps
pub mod Tables
pub mod Walks
pub mod Ways
mod Samples
