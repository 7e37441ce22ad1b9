use Rattle.c65_agree_variadic_call.proofs.Passed.{further_arguments_are_passed}
use Rattle.c65_agree_variadic_call.proofs.laws.further_arguments_are_passed.Goals as goal

pub returns : goal.returns
returns c = further_arguments_are_passed
