use Rattle.c65_agree_variadic.proofs.Entered.{further_calls_are_entered}
use Rattle.c65_agree_variadic.proofs.laws.further_calls_are_entered.Goals as goal

pub returns : goal.returns
returns c = further_calls_are_entered
