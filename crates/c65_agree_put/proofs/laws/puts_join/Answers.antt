use Rattle.c65_agree_put.proofs.Puts.{puts_join}
use Rattle.c65_agree_put.proofs.laws.puts_join.Goals as goal

pub returns : goal.returns
returns c = puts_join
