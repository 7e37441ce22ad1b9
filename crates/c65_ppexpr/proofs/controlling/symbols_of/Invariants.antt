use Rattle.std.proofs.Common.{◌≡◌, [], length}
use Rattle.c65_ppexpr.specs.ConditionLines.{symbols_of}
use Rattle.c65_ppexpr.proofs.controlling.symbols_of.Given as goal

abbrev pub invariant-loop-token : goal.invariant-loop-token
invariant-loop-token l = symbols_of l.names l.symbols.items l.rest ≡ symbols_of l.names [] l.tokens

abbrev pub decreases-loop-token : goal.decreases-loop-token
decreases-loop-token l = length l.rest
