pub mod TableLaws
pub mod PartLaws
