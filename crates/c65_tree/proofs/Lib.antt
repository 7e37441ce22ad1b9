pub mod Growing
pub mod Made
pub mod Lists
pub mod Views
