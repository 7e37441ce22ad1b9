use Rattle.std.proofs.Common.{◌≡◌, ◌≤◌, true, take, drop}
use Rattle.c65_code.specs.Parts.{no_parts}
use Rattle.c65_live.specs.Renewals.{are_plain, before_all, widened}
use Rattle.c65_live.proofs.renew.edge.Given as goal

-- the sides are those of the lines from the first one on
abbrev pub invariant-loop-first : goal.invariant-loop-first
invariant-loop-first l = record {
  before : l.first ≤ l.at;
  old_plain : are_plain (widened l.lines l.first l.at (take l.count (drop l.at l.lines))) ≡ true;
  new_plain : are_plain (widened l.lines l.first l.at l.new) ≡ true;
  old : l.sides.old ≡ before_all l.out (widened l.lines l.first l.at (take l.count (drop l.at l.lines))) l.after;
  new : l.sides.new ≡ before_all l.out (widened l.lines l.first l.at l.new) l.after;
  old_reads : l.sides.old_reads ≡ before_all l.out (widened l.lines l.first l.at (take l.count (drop l.at l.lines))) no_parts;
  new_reads : l.sides.new_reads ≡ before_all l.out (widened l.lines l.first l.at l.new) no_parts;
}

abbrev pub decreases-loop-first : goal.decreases-loop-first
decreases-loop-first l = l.first
