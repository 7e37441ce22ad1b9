use Rattle.c65_agree_part.proofs.Carried.{areas_are_begun}
use Rattle.c65_agree_part.proofs.laws.areas_are_begun.Goals as goal

pub returns : goal.returns
returns c = areas_are_begun
