use Rattle.c65_code.proofs.RoutineNumbers.{routines_are_numbered}
use Rattle.c65_code.proofs.laws.routines_are_numbered.Goals as goal

pub returns : goal.returns
returns c = routines_are_numbered
