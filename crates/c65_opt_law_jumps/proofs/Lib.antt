mod Labels
mod Branches
mod Jumps
mod Unreached
