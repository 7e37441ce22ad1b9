pub mod CallLaws
pub mod FoldLaws
pub mod RangeLaws
pub mod TypedLaws
