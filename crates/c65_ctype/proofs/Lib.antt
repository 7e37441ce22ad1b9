pub mod AgreeLaws
pub mod CompositeLaws
pub mod FinishLaws
pub mod LayoutLaws
pub mod MeetLaws
pub mod TableLaws
pub mod ViewLaws
