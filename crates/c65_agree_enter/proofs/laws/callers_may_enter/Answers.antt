use Rattle.c65_agree_enter.proofs.Entered.{callers_may_enter}
use Rattle.c65_agree_enter.proofs.laws.callers_may_enter.Goals as goal

pub returns : goal.returns
returns c = callers_may_enter
