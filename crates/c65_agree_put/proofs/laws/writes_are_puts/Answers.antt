use Rattle.c65_agree_put.proofs.Values.{writes_are_puts}
use Rattle.c65_agree_put.proofs.laws.writes_are_puts.Goals as goal

pub returns : goal.returns
returns c = writes_are_puts
