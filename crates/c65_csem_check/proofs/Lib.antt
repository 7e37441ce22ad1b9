pub mod CodeLaws
pub mod ExpressionLaws
pub mod ListLaws
pub mod StatementLaws
pub mod Tells
pub mod TypeLaws
pub mod UnitLaws
