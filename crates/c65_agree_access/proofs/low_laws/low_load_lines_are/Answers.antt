use Rattle.c65_agree_access.proofs.Lows.{low_load_lines_are}
use Rattle.c65_agree_access.proofs.low_laws.low_load_lines_are.Goals as goal

pub returns : goal.returns
returns c = low_load_lines_are
