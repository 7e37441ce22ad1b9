use Rattle.c65_opt_law_jumps.proofs.Jumps.{idle_jump_followed, idle_branch_followed, inverted_followed, passed_branch_followed}
use Rattle.c65_opt_law_jumps.proofs.laws.jumps_are_followed.Goals as goal

pub returns-clause-idle_jump : goal.returns-clause-idle_jump
returns-clause-idle_jump c = idle_jump_followed

pub returns-clause-idle_branch : goal.returns-clause-idle_branch
returns-clause-idle_branch c = idle_branch_followed

pub returns-clause-inverted : goal.returns-clause-inverted
returns-clause-inverted c = inverted_followed

pub returns-clause-passed_branch : goal.returns-clause-passed_branch
returns-clause-passed_branch c = passed_branch_followed
