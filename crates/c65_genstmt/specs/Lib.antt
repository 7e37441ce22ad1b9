pub mod Cases
pub mod Functions
pub mod Jumps
pub mod Objects
pub mod Programs
pub mod Stmts
