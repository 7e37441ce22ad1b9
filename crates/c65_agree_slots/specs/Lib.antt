pub mod Callees
pub mod Calls
pub mod Frames
pub mod Functions
pub mod Refused
pub mod Results
pub mod Slots
pub mod Taken
