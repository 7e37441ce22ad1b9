mod Marks
mod Plans
mod Landings
mod Scenes
mod States
mod Calls
mod Steps
pub mod Runs
