pub mod Scenes
pub mod Calls
pub mod Steps
pub mod Runs
