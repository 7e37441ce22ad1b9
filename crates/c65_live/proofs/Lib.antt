pub mod Sets
mod Sound
mod Closed
mod Rises
mod Labels
mod Tables
mod Renewed
mod Edges
mod Replacing
mod Lists
mod Places
mod Cuts
mod Follows
mod Regions
mod Swept
pub mod Samples
