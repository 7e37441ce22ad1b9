pub mod Stacks
pub mod Answering
pub mod Turns
pub mod Tokens
