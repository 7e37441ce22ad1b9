use Rattle.c65_rtl_law_walks.proofs.Joins.{runs_are_joined}
use Rattle.c65_rtl_law_walks.proofs.laws.runs_are_joined.Goals as goal

pub returns : goal.returns
returns c = runs_are_joined
