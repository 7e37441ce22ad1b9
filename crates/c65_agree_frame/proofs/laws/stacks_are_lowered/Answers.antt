use Rattle.c65_agree_frame.proofs.Stack.{stacks_are_lowered}
use Rattle.c65_agree_frame.proofs.laws.stacks_are_lowered.Goals as goal

pub returns : goal.returns
returns c = stacks_are_lowered
