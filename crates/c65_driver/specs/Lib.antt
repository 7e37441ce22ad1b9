pub mod Outcome
pub mod Reports
