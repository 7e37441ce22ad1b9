use Rattle.std.proofs.Common.{◌≡◌, length}
use Rattle.c65_macro.specs.Definitions
use Rattle.c65_macro.proofs.definition.same_rest.Given as goal

abbrev pub invariant-loop-token : goal.invariant-loop-token
invariant-loop-token l = Definitions.same_rest l.left l.right ≡ Definitions.same_rest l.a l.b

abbrev pub decreases-loop-token : goal.decreases-loop-token
decreases-loop-token l = length l.left
