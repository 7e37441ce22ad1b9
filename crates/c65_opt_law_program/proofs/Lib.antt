mod Symbols
mod Data
mod Literals
