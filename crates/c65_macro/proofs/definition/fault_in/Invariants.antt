use Rattle.std.proofs.Common.{◌≡◌, length}
use Rattle.c65_macro.specs.Definitions
use Rattle.c65_macro.proofs.definition.fault_in.Given as goal

abbrev pub invariant-loop-token : goal.invariant-loop-token
invariant-loop-token l = Definitions.fault_in l.words l.params l.rest ≡ Definitions.fault_in l.words l.params l.body

abbrev pub decreases-loop-token : goal.decreases-loop-token
decreases-loop-token l = length l.rest
