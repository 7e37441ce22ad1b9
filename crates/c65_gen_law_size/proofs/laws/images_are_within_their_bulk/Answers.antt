use Rattle.c65_gen_law_size.proofs.Bulks.{images_are_within_their_bulk}
use Rattle.c65_gen_law_size.proofs.laws.images_are_within_their_bulk.Goals as goal

pub returns : goal.returns
returns c = images_are_within_their_bulk
