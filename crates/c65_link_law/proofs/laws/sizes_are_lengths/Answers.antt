use Rattle.c65_link_law.proofs.Extents.{sizes_are_lengths}
use Rattle.c65_link_law.proofs.laws.sizes_are_lengths.Goals as goal

pub returns : goal.returns
returns c = sizes_are_lengths
