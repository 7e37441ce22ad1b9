use Rattle.std.proofs.Common.{◌≡◌, [], length}
use Rattle.c65_ppline.specs.DefineLines.{parameters}
use Rattle.c65_ppline.proofs.definition.read_parameters.Given as goal

abbrev pub invariant-loop-name : goal.invariant-loop-name
invariant-loop-name l = parameters l.names l.params.items l.rest ≡ parameters l.names [] l.tokens

abbrev pub decreases-loop-name : goal.decreases-loop-name
decreases-loop-name l = length l.rest
