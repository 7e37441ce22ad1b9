use Rattle.c65_agree_invoke.proofs.Reaching.{lined_functions_may_be_reached}
use Rattle.c65_agree_invoke.proofs.laws.lined_functions_may_be_reached.Goals as goal

pub returns : goal.returns
returns c = lined_functions_may_be_reached
