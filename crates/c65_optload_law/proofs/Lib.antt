mod Registers
mod Loads
mod Places
mod Made
mod Moved
mod Kept
