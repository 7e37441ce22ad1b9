use Rattle.std.proofs.Common.{length}
use Rattle.c65_genentry.proofs.choice.+put_cases.Given as goal

abbrev pub decreases-put_cases : goal.decreases-put_cases
decreases-put_cases l = length l.values.now
