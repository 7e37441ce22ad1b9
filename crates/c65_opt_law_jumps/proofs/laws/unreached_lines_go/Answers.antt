use Rattle.c65_opt_law_jumps.proofs.Unreached.{unreached_followed, passed_over_followed}
use Rattle.c65_opt_law_jumps.proofs.laws.unreached_lines_go.Goals as goal

pub returns-clause-closed : goal.returns-clause-closed
returns-clause-closed c = unreached_followed

pub returns-clause-taken : goal.returns-clause-taken
returns-clause-taken c = passed_over_followed
