pub mod Definitions
pub mod Answers
pub mod Lexing
pub mod Relations
pub mod Parameters
