pub mod Arms
pub mod Body
pub mod Plain
pub mod Tests
