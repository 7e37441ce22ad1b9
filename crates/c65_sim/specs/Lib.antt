pub mod View
pub mod Budgets
pub mod Differing
pub mod Turns
pub mod Runs
pub mod Laws
