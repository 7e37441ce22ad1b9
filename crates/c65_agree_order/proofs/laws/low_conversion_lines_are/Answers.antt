use Rattle.c65_agree_order.proofs.Lines.{low_conversion_lines_are}
use Rattle.c65_agree_order.proofs.laws.low_conversion_lines_are.Goals as goal

pub returns : goal.returns
returns c = low_conversion_lines_are
