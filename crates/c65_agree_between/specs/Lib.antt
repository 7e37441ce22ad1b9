pub mod Laws
pub mod Stmts
