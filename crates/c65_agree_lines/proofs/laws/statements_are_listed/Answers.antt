use Rattle.c65_agree_lines.proofs.Listed.{statements_are_listed}
use Rattle.c65_agree_lines.proofs.laws.statements_are_listed.Goals as goal

pub returns : goal.returns
returns c = statements_are_listed
