use Rattle.c65_depth_law.proofs.Checked.{checked_covered}
use Rattle.c65_depth_law.proofs.laws.checked_is_covered.Goals as goal

pub returns : goal.returns
returns c = λ g costs standings given main args said. checked_covered g costs given standings main args said
