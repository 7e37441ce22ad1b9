mod NumberLaws
mod WordLaws
