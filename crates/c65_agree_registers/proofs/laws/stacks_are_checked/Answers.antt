use Rattle.c65_agree_registers.proofs.Check.{stacks_are_checked}
use Rattle.c65_agree_registers.proofs.laws.stacks_are_checked.Goals as goal

pub returns : goal.returns
returns c = stacks_are_checked
