use Rattle.c65_link_law.proofs.Extents.{code_is_within_its_extent}
use Rattle.c65_link_law.proofs.laws.code_is_within_its_extent.Goals as goal

pub returns : goal.returns
returns c = code_is_within_its_extent
