use Rattle.c65_gen_law_lines.proofs.StackLaws.{calls_are_counted}
use Rattle.c65_gen_law_lines.proofs.laws.calls_are_counted.Goals as goal

pub returns : goal.returns
returns c = calls_are_counted
