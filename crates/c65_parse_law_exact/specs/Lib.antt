pub mod Laws
pub mod Exact
pub mod Calls
pub mod Scanned
