use Rattle.c65_agree_put.proofs.Puts.{puts_are_kept}
use Rattle.c65_agree_put.proofs.laws.puts_are_kept.Goals as goal

pub returns : goal.returns
returns c = puts_are_kept
