use Rattle.c65_gen_law_calls.proofs.FoundLaws.{lines_are_of_calls}
use Rattle.c65_gen_law_calls.proofs.laws.lines_are_of_calls.Goals as goal

pub returns : goal.returns
returns c = lines_are_of_calls
