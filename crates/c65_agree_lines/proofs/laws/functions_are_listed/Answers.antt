use Rattle.c65_agree_lines.proofs.Listed.{functions_are_listed}
use Rattle.c65_agree_lines.proofs.laws.functions_are_listed.Goals as goal

pub returns : goal.returns
returns c = functions_are_listed
