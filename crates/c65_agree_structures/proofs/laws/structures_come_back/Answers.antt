use Rattle.c65_agree_structures.proofs.Results.{structures_come_back}
use Rattle.c65_agree_structures.proofs.laws.structures_come_back.Goals as goal

pub returns : goal.returns
returns c = structures_come_back
