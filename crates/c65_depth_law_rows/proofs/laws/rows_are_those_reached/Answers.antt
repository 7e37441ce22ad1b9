use Rattle.c65_depth_law_rows.proofs.Rows.{rows_are_those_reached as the_law}
use Rattle.c65_depth_law_rows.proofs.laws.rows_are_those_reached.Goals as goal

pub returns : goal.returns
returns c = the_law
