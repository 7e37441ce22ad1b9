use Rattle.c65_opt_law_opened.proofs.Serves.{routines_serve}
use Rattle.c65_opt_law_opened.proofs.laws.routines_serve.Goals as goal

pub returns : goal.returns
returns c = routines_serve c.justified_lines_follow.ensures c.following_until_end_composes.ensures.holds
