use Rattle.std.proofs.Common.{Option, sym, ap, option_map}
use Rattle.c65_code.specs.declared.routine.Routine.{Routine}
use Rattle.c65_code.proofs.RoutineNames.{found_by_name}
use Rattle.c65_asm.specs.Rows.{Run}
use Rattle.c65_asm.proofs.CallLaws.{none_named}
use Rattle.c65_asm.proofs.row.routine.Goals as goal

pub returns-in-Some : goal.returns-in-Some
returns-in-Some c = ap (λ (o : Option Routine). option_map Run o) (sym (found_by_name c.args.text.now c.in-Some.which c.in-Some.ensures.named))

pub returns-in-None : goal.returns-in-None
returns-in-None c = ap (λ (o : Option Routine). option_map Run o) (none_named c.args.text.now c.in-None.ensures.found)
