use Rattle.c65_gen_law_lines.proofs.HomeLaws.{homes_are_apart}
use Rattle.c65_gen_law_lines.proofs.laws.homes_are_apart.Goals as goal

pub returns : goal.returns
returns c = homes_are_apart
