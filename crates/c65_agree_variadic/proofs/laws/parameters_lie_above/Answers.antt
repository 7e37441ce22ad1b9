use Rattle.c65_agree_variadic.proofs.Given.{parameters_lie_above}
use Rattle.c65_agree_variadic.proofs.laws.parameters_lie_above.Goals as goal

pub returns : goal.returns
returns c = parameters_lie_above
