use Rattle.c65_code.proofs.StickLaws.{never_sticks}
use Rattle.c65_code.proofs.laws.never_sticks.Goals as goal

pub returns : goal.returns
returns c = never_sticks
