use Rattle.std.proofs.Common.{drop}
use Rattle.c65_know.specs.Index.{AreReferences}
use Rattle.c65_optflow.proofs.drop.references.Given as goal

abbrev pub invariant-loop-at : goal.invariant-loop-at
invariant-loop-at l = AreReferences l.labels.entries (drop l.at l.lines)
