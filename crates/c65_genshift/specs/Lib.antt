pub mod Shifts
pub mod Quick
