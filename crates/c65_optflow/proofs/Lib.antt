pub mod Jumps
pub mod Chains
pub mod Rules
pub mod Unused
pub mod Good
pub mod Dropped
pub mod Hopless
