use Rattle.c65_agree_structures.proofs.Results.{results_come_back}
use Rattle.c65_agree_structures.proofs.laws.results_come_back.Goals as goal

pub returns : goal.returns
returns c = results_come_back
