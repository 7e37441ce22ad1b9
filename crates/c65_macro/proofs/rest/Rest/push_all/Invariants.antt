use Rattle.std.proofs.Common.{◌≡◌, ◌++◌, vec_len}
use Rattle.c65_macro.proofs.rest.Rest.push_all.Given as goal

abbrev pub invariant-loop-item : goal.invariant-loop-item
invariant-loop-item l = l.items.items ++ l.self ≡ l.fn.tokens.items ++ l.fn.self

abbrev pub decreases-loop-item : goal.decreases-loop-item
decreases-loop-item l = vec_len l.items
