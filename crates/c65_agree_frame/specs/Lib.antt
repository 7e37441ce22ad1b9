pub mod Leads
pub mod Laws
pub mod Ends
pub mod Entries
pub mod Further
