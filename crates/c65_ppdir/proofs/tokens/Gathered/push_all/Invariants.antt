use Rattle.std.proofs.Common.{◌≡◌, length}
use Rattle.c65_ppdir.specs.UnitTokens.{with_tokens}
use Rattle.c65_ppdir.proofs.tokens.Gathered.push_all.Given as goal

abbrev pub invariant-loop-token : goal.invariant-loop-token
invariant-loop-token l = with_tokens l.self l.rest ≡ with_tokens l.fn.self l.tokens

abbrev pub decreases-loop-token : goal.decreases-loop-token
decreases-loop-token l = length l.rest
