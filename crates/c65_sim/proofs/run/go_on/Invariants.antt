use Rattle.std.proofs.Common.{◌≡◌}
use Rattle.c65_sim.proofs.Legs.{SoFar}
use Rattle.c65_sim.proofs.run.go_on.Given as goal

abbrev pub invariant-loop-rows : goal.invariant-loop-rows
invariant-loop-rows g l =
    SoFar l.budget l.guard l.count l.rows l.spent l.differed l.fn.computer l.computer (g.I.Source.left l.fn.input) (g.I.Source.left l.input) (g.O.Sink.written l.fn.out) (g.O.Sink.written l.out)
    × (g.I.Source.faults l.input ≡ g.I.Source.faults l.fn.input)
    × (g.O.Sink.faults l.out ≡ g.O.Sink.faults l.fn.out)
