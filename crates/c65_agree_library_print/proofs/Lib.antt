pub mod Drawn
pub mod Print
pub mod Counted
