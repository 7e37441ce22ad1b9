use Rattle.c65_gen_law_size.proofs.Bulks.{programs_are_within_their_bulk}
use Rattle.c65_gen_law_size.proofs.laws.programs_are_within_their_bulk.Goals as goal

pub returns : goal.returns
returns c = programs_are_within_their_bulk
