pub mod Bytes
pub mod ArgLaws
pub mod TakeLaws
pub mod TurnLaws
pub mod Legs
pub mod RunLaws
pub mod SumLaws
