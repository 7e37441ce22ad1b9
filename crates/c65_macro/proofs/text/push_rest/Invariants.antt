use Rattle.std.proofs.Common.{◌≡◌, ◌++◌, length}
use Rattle.c65_macro.specs.Fill.{shown_rest}
use Rattle.c65_macro.specs.Views.{tokens_of}
use Rattle.c65_macro.proofs.text.push_rest.Given as goal

abbrev pub invariant-loop-item : goal.invariant-loop-item
invariant-loop-item l = l.text.items ++ shown_rest l.names (tokens_of l.rest) ≡ l.fn.text.items ++ shown_rest l.names (tokens_of l.argument)

abbrev pub decreases-loop-item : goal.decreases-loop-item
decreases-loop-item l = length l.rest
