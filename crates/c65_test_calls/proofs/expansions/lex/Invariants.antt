use Rattle.std.proofs.Common.{length}
use Rattle.c65_test_calls.proofs.expansions.lex.Given as goal

abbrev pub decreases-loop-rest : goal.decreases-loop-rest
decreases-loop-rest l = length l.rest
