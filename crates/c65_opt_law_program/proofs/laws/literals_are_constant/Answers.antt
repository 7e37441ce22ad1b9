use Rattle.c65_opt_law_program.proofs.Literals.{literals_are_constant}
use Rattle.c65_opt_law_program.proofs.laws.literals_are_constant.Goals as goal

pub returns : goal.returns
returns c = literals_are_constant
