use Rattle.c65_agree_variadic_function.proofs.Arguments.{accepted_further_arguments_are_taken}
use Rattle.c65_agree_variadic_function.proofs.laws.accepted_further_arguments_are_taken.Goals as goal

pub returns : goal.returns
returns c = accepted_further_arguments_are_taken
