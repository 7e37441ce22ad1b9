use Rattle.c65_agree_structures.proofs.Results.{nothing_comes_back}
use Rattle.c65_agree_structures.proofs.laws.nothing_comes_back.Goals as goal

pub returns : goal.returns
returns c = nothing_comes_back
