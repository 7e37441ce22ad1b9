use Rattle.c65_rtl_law_walks.proofs.Calls.{rows_are_met_within}
use Rattle.c65_rtl_law_walks.proofs.laws.rows_are_met_within.Goals as goal

pub returns : goal.returns
returns c = rows_are_met_within
