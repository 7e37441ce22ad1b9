use Rattle.c65_depth_law_rows.proofs.Settle.{rounds_settle as the_law}
use Rattle.c65_depth_law_rows.proofs.laws.rounds_settle.Goals as goal

pub returns : goal.returns
returns c = the_law
