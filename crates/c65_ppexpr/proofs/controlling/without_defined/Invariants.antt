use Rattle.std.proofs.Common.{◌≡◌, [], length}
use Rattle.c65_ppexpr.specs.Resolved.{resolved, anything}
use Rattle.c65_ppexpr.proofs.controlling.without_defined.Given as goal

abbrev pub invariant-loop-token : goal.invariant-loop-token
invariant-loop-token l = resolved l.macros anything l.names l.out.items l.rest ≡ resolved l.macros anything l.fn.names [] l.tokens

abbrev pub decreases-loop-token : goal.decreases-loop-token
decreases-loop-token l = length l.rest
