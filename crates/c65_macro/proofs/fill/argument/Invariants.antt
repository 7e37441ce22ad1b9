use Rattle.std.proofs.Common.{◌≡◌, length}
use Rattle.c65_macro.specs.Fill
use Rattle.c65_macro.proofs.fill.argument.Given as goal

abbrev pub invariant-loop-param : goal.invariant-loop-param
invariant-loop-param l = Fill.argument l.names l.rest l.name ≡ Fill.argument l.params l.arguments l.name

abbrev pub decreases-loop-param : goal.decreases-loop-param
decreases-loop-param l = length l.names
