use Rattle.c65_link_law.proofs.Extents.{images_are_bounded}
use Rattle.c65_link_law.proofs.laws.images_are_bounded.Goals as goal

pub returns : goal.returns
returns c = images_are_bounded
