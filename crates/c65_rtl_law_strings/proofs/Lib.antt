pub mod Lengths
pub mod StringLength
pub mod Common
pub mod Comparing
pub mod Strcmp
