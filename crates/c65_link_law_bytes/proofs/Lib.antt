pub mod Instructions
pub mod Tables
pub mod Files
pub mod Read
