use Rattle.c65_live.proofs.Rises.{equal}
use Rattle.c65_live.proofs.border.are_equal.Goals as goal

pub returns : goal.returns
returns c h = equal _ _ _ c.eq.ensures h
