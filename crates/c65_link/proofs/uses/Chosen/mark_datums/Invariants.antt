use Rattle.std.proofs.Common.{◌≡◌, drop}
use Rattle.c65_link.specs.Symbols.{with_datum_uses}
use Rattle.c65_link.proofs.uses.Chosen.mark_datums.Given as goal

abbrev pub invariant-loop-datum : goal.invariant-loop-datum
invariant-loop-datum l = record l.self { marks = with_datum_uses l.targets l.self.marks (drop l.datum-index l.datums) } ≡ record l.initial.self { marks = with_datum_uses l.targets l.initial.self.marks l.datums }
