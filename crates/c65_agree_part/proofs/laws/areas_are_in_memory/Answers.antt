use Rattle.c65_agree_part.proofs.Homes.{areas_are_in_memory}
use Rattle.c65_agree_part.proofs.laws.areas_are_in_memory.Goals as goal

pub returns : goal.returns
returns c = areas_are_in_memory
