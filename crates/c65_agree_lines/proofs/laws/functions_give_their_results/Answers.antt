use Rattle.c65_agree_lines.proofs.Listed.{functions_give_their_results}
use Rattle.c65_agree_lines.proofs.laws.functions_give_their_results.Goals as goal

pub returns : goal.returns
returns c = functions_give_their_results
