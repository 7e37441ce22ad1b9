use Rattle.c65_agree_places.proofs.Spots.{literals_are_at_symbols}
use Rattle.c65_agree_places.proofs.laws.literals_are_at_symbols.Goals as goal

pub returns : goal.returns
returns c = literals_are_at_symbols
