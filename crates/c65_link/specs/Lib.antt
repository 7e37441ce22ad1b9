pub mod Opcodes
pub mod Bodies
pub mod Runtime
pub mod Symbols
pub mod Layouts
pub mod Bytes
pub mod Linked
pub mod Laws
