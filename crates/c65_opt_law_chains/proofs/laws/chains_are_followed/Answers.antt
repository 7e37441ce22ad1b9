use Rattle.c65_opt_law_chains.proofs.Threaded.{long_jump_followed, long_branch_followed}
use Rattle.c65_opt_law_chains.proofs.laws.chains_are_followed.Goals as goal

pub returns-clause-jump : goal.returns-clause-jump
returns-clause-jump c = long_jump_followed

pub returns-clause-branch : goal.returns-clause-branch
returns-clause-branch c = long_branch_followed
