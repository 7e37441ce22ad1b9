use Rattle.c65_agree_places.proofs.Spots.{objects_are_at_symbols}
use Rattle.c65_agree_places.proofs.laws.objects_are_at_symbols.Goals as goal

pub returns : goal.returns
returns c = objects_are_at_symbols
