use Rattle.c65_agree_homes.proofs.Given.{heads_are_counted}
use Rattle.c65_agree_homes.proofs.laws.heads_are_counted.Goals as goal

pub returns : goal.returns
returns c = heads_are_counted
