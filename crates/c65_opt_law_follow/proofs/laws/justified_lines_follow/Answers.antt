use Rattle.c65_opt_law_follow.proofs.Rewriting.{justified_lines_follow}
use Rattle.c65_opt_law_follow.proofs.laws.justified_lines_follow.Goals as goal

pub returns : goal.returns
returns c = justified_lines_follow
