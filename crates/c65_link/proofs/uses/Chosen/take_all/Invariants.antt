use Rattle.std.proofs.Common.{◌≡◌, drop}
use Rattle.c65_link.specs.Runtime.{with_routines}
use Rattle.c65_link.proofs.uses.Chosen.take_all.Given as goal

abbrev pub invariant-loop-which : goal.invariant-loop-which
invariant-loop-which l = with_routines l.self (drop l.which-index l.routines) ≡ with_routines l.initial.self l.routines
