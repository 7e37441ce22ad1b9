use Rattle.std.proofs.Common.{◌≡◌, [], length}
use Rattle.c65_ppfile.specs.IncludeLines.{angled}
use Rattle.c65_ppfile.proofs.include.read_angled.Given as goal

abbrev pub invariant-loop-token : goal.invariant-loop-token
invariant-loop-token l = angled l.names l.name.items l.rest ≡ angled l.names [] l.tokens

abbrev pub decreases-loop-token : goal.decreases-loop-token
decreases-loop-token l = length l.rest
