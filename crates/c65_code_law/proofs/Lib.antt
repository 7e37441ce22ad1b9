pub mod MetRows
pub mod Results
pub mod Routines
pub mod Sticks
