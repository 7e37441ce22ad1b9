use Rattle.c65_genstmt.proofs.Made.{labels_are_few}
use Rattle.c65_gen_law_size.proofs.laws.labels_are_few.Goals as goal

pub returns : goal.returns
returns c = labels_are_few
