pub mod Known
pub mod Bases
pub mod Chains
pub mod Indexes
pub mod Lows
pub mod Relations
