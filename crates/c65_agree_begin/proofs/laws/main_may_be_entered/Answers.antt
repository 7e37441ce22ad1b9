use Rattle.c65_agree_begin.proofs.Main.{main_may_be_entered}
use Rattle.c65_agree_begin.proofs.laws.main_may_be_entered.Goals as goal

pub returns : goal.returns
returns c = main_may_be_entered
