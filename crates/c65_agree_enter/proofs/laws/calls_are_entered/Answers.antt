use Rattle.c65_agree_enter.proofs.Entered.{calls_are_entered}
use Rattle.c65_agree_enter.proofs.laws.calls_are_entered.Goals as goal

pub returns : goal.returns
returns c = calls_are_entered
