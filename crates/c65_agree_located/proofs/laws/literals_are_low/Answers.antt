use Rattle.c65_agree_located.proofs.Symbols.{literals_are_low}
use Rattle.c65_agree_located.proofs.laws.literals_are_low.Goals as goal

pub returns : goal.returns
returns c = literals_are_low
