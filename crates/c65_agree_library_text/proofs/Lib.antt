pub mod Areas
pub mod Texts
pub mod Strlen
pub mod Strcmp
