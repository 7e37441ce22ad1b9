use Rattle.c65_gen_law_lines.proofs.SizeLaws.{functions_are_small}
use Rattle.c65_gen_law_lines.proofs.laws.functions_are_small.Goals as goal

pub returns : goal.returns
returns c = functions_are_small
