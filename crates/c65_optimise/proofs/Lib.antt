mod FunctionLaws
mod FamilyLaws
