pub mod Bases
pub mod BaseLaws
pub mod LoadLaws
