pub mod Stand
pub mod Listed
pub mod Turns
