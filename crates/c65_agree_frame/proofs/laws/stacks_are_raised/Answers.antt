use Rattle.c65_agree_frame.proofs.Stack.{stacks_are_raised}
use Rattle.c65_agree_frame.proofs.laws.stacks_are_raised.Goals as goal

pub returns : goal.returns
returns c = stacks_are_raised
