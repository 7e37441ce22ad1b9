use Rattle.c65_agree_put.proofs.Puts.{puts_are_taken}
use Rattle.c65_agree_put.proofs.laws.puts_are_taken.Goals as goal

pub returns : goal.returns
returns c = puts_are_taken
