pub mod Calls
pub mod Certificates
pub mod Checks
pub mod Facts
pub mod Numbers
pub mod Reached
pub mod Tables
