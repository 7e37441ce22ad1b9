use Rattle.std.proofs.Common.{◌≡◌, drop}
use Rattle.c65_genwide.specs.Lines.{with_lines, Keeps}
use Rattle.c65_genentry.specs.Entry.{all_counted}
use Rattle.c65_genentry.proofs.entry.put_all_counted.Given as goal

abbrev pub invariant-loop-moved : goal.invariant-loop-moved
invariant-loop-moved l = (with_lines l.draft (all_counted l.soft l.stacked (drop l.moved-index l.all)) ≡ with_lines l.initial.draft (all_counted l.soft l.stacked l.all)) × Keeps l.initial.draft l.draft
