use Rattle.c65_agree_lines.proofs.Stand.{segments_are_placed}
use Rattle.c65_agree_lines.proofs.laws.segments_are_placed.Goals as goal

pub returns : goal.returns
returns c = segments_are_placed
