use Rattle.c65_agree_part.proofs.Cleared.{objects_are_cleared}
use Rattle.c65_agree_part.proofs.laws.objects_are_cleared.Goals as goal

pub returns : goal.returns
returns c = objects_are_cleared
