pub mod Answering
pub mod Counts
pub mod Drafts
pub mod Lasts
pub mod Loops
pub mod Made
