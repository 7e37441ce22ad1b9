use Rattle.c65_agree_located.proofs.Symbols.{objects_are_low}
use Rattle.c65_agree_located.proofs.laws.objects_are_low.Goals as goal

pub returns : goal.returns
returns c = objects_are_low
