use Rattle.c65_gen_law_lines.proofs.FunctionLaws.{functions_are_segments}
use Rattle.c65_gen_law_lines.proofs.laws.functions_are_segments.Goals as goal

pub returns : goal.returns
returns c = functions_are_segments
