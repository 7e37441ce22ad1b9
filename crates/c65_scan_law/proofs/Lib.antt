pub mod CharLaws
pub mod NumberLaws
pub mod TokenLaws
