use Rattle.std.proofs.Common.{◌≡◌, length, drop}
use Rattle.c65_know.specs.Index.{AreReferences, backs_of}
use Rattle.c65_know.proofs.index.backs.Given as goal

-- `at` lines are left
abbrev pub invariant-loop-at : goal.invariant-loop-at
invariant-loop-at l = record {
  references : AreReferences l.labels.entries (drop l.at l.lines);
  backs : drop l.at l.backs.items ≡ backs_of (drop l.at l.lines);
  long : length l.backs.items ≡ length l.lines;
}
