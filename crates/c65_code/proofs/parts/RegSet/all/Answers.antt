use Rattle.c65_code.proofs.PartLaws.{all_iff}
use Rattle.c65_code.proofs.parts.RegSet.all.Goals as goal

pub returns-clause-parts : goal.returns-clause-parts
returns-clause-parts c = all_iff
