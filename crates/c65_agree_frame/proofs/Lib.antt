pub mod Leads
pub mod Stack
pub mod Banks
pub mod Ends
pub mod Entries
pub mod Further
