pub mod CellLaws
pub mod ItemLaws
pub mod PartLaws
pub mod Ranges
