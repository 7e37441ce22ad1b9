use Rattle.c65_gen_law_stack.proofs.ParameterLaws.{calls_pass_what_is_taken}
use Rattle.c65_gen_law_stack.proofs.laws.calls_pass_what_is_taken.Goals as goal

pub returns : goal.returns
returns c = calls_pass_what_is_taken
