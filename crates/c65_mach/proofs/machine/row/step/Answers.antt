use Rattle.std.proofs.Common.{ap}
use Rattle.c65_mach.specs.State.{State}
use Rattle.c65_mach.proofs.Advancing.{stepped, refused}
use Rattle.c65_mach.proofs.machine.row.step.Goals as goal

pub returns-in-Some : goal.returns-in-Some
returns-in-Some c = stepped _ _ _ _ c.in-Some.ensures

pub returns-in-None : goal.returns-in-None
returns-in-None c = refused _ _ _ _ (ap (λ (t : State). t.pc) c.machine.view_is) c.in-None.ensures
