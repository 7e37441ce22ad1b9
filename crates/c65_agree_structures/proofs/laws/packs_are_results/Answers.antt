use Rattle.c65_agree_structures.proofs.Packs.{packs_are_results}
use Rattle.c65_agree_structures.proofs.laws.packs_are_results.Goals as goal

pub returns : goal.returns
returns c = packs_are_results
