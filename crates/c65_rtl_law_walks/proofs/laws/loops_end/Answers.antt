use Rattle.c65_rtl_law_walks.proofs.Joins.{loops_end}
use Rattle.c65_rtl_law_walks.proofs.laws.loops_end.Goals as goal

pub returns : goal.returns
returns c = loops_end
