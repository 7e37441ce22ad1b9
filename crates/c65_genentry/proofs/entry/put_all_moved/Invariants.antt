use Rattle.std.proofs.Common.{◌≡◌, drop}
use Rattle.c65_genwide.specs.Lines.{with_lines, Keeps}
use Rattle.c65_genentry.specs.Entry.{all_moved}
use Rattle.c65_genentry.proofs.entry.put_all_moved.Given as goal

abbrev pub invariant-loop-moved : goal.invariant-loop-moved
invariant-loop-moved l = (with_lines l.draft (all_moved (drop l.moved-index l.all)) ≡ with_lines l.initial.draft (all_moved l.all)) × Keeps l.initial.draft l.draft
