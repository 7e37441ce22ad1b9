use Rattle.std.proofs.Common.{◌≡◌, ◌++◌, length}
use Rattle.c65_macro.specs.Views.{tokens_of}
use Rattle.c65_macro.proofs.state.unmarked.Given as goal

abbrev pub invariant-loop-item : goal.invariant-loop-item
invariant-loop-item l = l.tokens.items ++ tokens_of l.rest ≡ tokens_of l.items

abbrev pub decreases-loop-item : goal.decreases-loop-item
decreases-loop-item l = length l.rest
