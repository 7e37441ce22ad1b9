use Rattle.std.proofs.Common.{◌≡◌, length}
use Rattle.std.specs.Prelude.{false}
use Rattle.c65_macro.specs.Uses
use Rattle.c65_macro.proofs.uses.is_replaced.Given as goal

abbrev pub invariant-loop-token : goal.invariant-loop-token
invariant-loop-token l = Uses.is_replaced l.words l.param l.is_beside l.rest ≡ Uses.is_replaced l.words l.param false l.body

abbrev pub decreases-loop-token : goal.decreases-loop-token
decreases-loop-token l = length l.rest
