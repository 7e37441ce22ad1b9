use Rattle.c65_gen_law_stack.proofs.ParameterLaws.{calls_pass_their_parameters}
use Rattle.c65_gen_law_stack.proofs.laws.calls_pass_their_parameters.Goals as goal

pub returns : goal.returns
returns c = calls_pass_their_parameters
