use Rattle.std.proofs.Common.{refl}
use Rattle.c65_meaning.proofs.samples.the_left_operand_comes_before_a_call.Goals as goal

pub returns : goal.returns
returns c = record { running = tt; ending = refl }
