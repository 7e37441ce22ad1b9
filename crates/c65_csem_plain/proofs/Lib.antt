mod ArmLaws
pub mod BodyLaws
mod CodeLaws
pub mod PlainLaws
pub mod OnceLaws
