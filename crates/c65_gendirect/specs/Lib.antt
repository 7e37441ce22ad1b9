pub mod Bytes
pub mod Compare
pub mod Pointed
pub mod Tests
pub mod Through
pub mod Words
