pub mod Residues
pub mod Ranges
pub mod Tests
pub mod Quotients
pub mod Shifts
pub mod Operators
pub mod Bytes
