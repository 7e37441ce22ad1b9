pub mod Words
pub mod Digits
pub mod Numbers
pub mod Chars
pub mod Tokens
pub mod Steps
