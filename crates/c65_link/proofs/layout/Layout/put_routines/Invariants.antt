use Rattle.std.proofs.Common.{◌≡◌, drop}
use Rattle.c65_link.specs.Layouts.{with_routines}
use Rattle.c65_link.proofs.layout.Layout.put_routines.Given as goal

abbrev pub invariant-loop-part : goal.invariant-loop-part
invariant-loop-part l = with_routines l.self (drop l.part-index l.parts) ≡ with_routines l.initial.self l.parts
