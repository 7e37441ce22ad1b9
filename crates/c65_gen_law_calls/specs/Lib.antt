pub mod Sites
pub mod Lines
pub mod Found
pub mod Agreement
pub mod Travels
pub mod Programs
