use Rattle.std.proofs.Common.{◌≡◌, ◌++◌, length}
use Rattle.c65_macro.proofs.rest.Rest.into_items.Given as goal

abbrev pub invariant-loop-item : goal.invariant-loop-item
invariant-loop-item l = l.items.items ++ l.rest ≡ l.fn.self

abbrev pub decreases-loop-item : goal.decreases-loop-item
decreases-loop-item l = length l.rest
