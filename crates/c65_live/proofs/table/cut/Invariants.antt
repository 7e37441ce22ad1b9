use Rattle.std.proofs.Common.{◌≡◌, ◌-◌, ◌≤◌, ◌++◌, length}
use Rattle.c65_live.proofs.table.cut.Given as goal

abbrev pub invariant-backward : goal.invariant-backward
invariant-backward l = l.front.items ++ l.back.items ≡ l.fn.front.items ++ l.fn.back.items

abbrev pub decreases-backward : goal.decreases-backward
decreases-backward l = length l.front.items

abbrev pub invariant-onward : goal.invariant-onward
invariant-onward l = record {
  same : l.front.items ++ l.back.items ≡ l.fn.front.items ++ l.fn.back.items;
  low : length l.front.items ≤ l.at;
}

abbrev pub decreases-onward : goal.decreases-onward
decreases-onward l = l.at - length l.front.items
