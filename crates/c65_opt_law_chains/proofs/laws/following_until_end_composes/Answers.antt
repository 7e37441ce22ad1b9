use Rattle.c65_opt_law_chains.proofs.Chains.{following_holds, following_until_end_composes}
use Rattle.c65_opt_law_chains.proofs.laws.following_until_end_composes.Goals as goal

pub returns-clause-holds : goal.returns-clause-holds
returns-clause-holds c = following_holds

pub returns-clause-composes : goal.returns-clause-composes
returns-clause-composes c = following_until_end_composes
