use Rattle.c65_agree_places.proofs.Spots.{functions_are_at_symbols}
use Rattle.c65_agree_places.proofs.laws.functions_are_at_symbols.Goals as goal

pub returns : goal.returns
returns c = functions_are_at_symbols
