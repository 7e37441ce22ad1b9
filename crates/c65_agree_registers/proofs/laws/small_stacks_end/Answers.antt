use Rattle.c65_agree_registers.proofs.Check.{small_stacks_end}
use Rattle.c65_agree_registers.proofs.laws.small_stacks_end.Goals as goal

pub returns : goal.returns
returns c = small_stacks_end
