pub mod Fixed
pub mod Main
