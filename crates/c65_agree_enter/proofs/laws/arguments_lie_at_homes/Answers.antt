use Rattle.c65_agree_enter.proofs.Lines.{arguments_lie_at_homes}
use Rattle.c65_agree_enter.proofs.laws.arguments_lie_at_homes.Goals as goal

pub returns : goal.returns
returns c = arguments_lie_at_homes
