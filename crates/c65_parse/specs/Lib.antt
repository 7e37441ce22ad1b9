pub mod Frames
pub mod Expressions
pub mod Declarators
pub mod Specifiers
pub mod Machine
pub mod Views
pub mod Leaves
pub mod Reading
