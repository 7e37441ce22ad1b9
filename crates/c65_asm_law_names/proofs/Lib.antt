mod Naming
mod Moved
mod Settings
mod Coming
mod Machine
mod Places
mod Writable
pub mod Sound
pub mod Renumbered
pub mod Missing
pub mod Example
