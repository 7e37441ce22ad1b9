use Rattle.c65_link_law.proofs.Placed.{functions_are_coded}
use Rattle.c65_link_law.proofs.laws.functions_stand.Goals as goal

pub returns : goal.returns
returns c = functions_are_coded
