pub mod Bytes
pub mod Choice
pub mod Drafts
pub mod Ends
pub mod Entry
pub mod Pointers
pub mod Stack
pub mod Words
