pub mod CodeLaws
pub mod ProgramLaws
pub mod ScopeLaws
pub mod Tells
