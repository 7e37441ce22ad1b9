use Rattle.std.proofs.Common.{length}
use Rattle.c65_gendirect.proofs.truth.+put_or.Given as goal

abbrev pub decreases-put_or : goal.decreases-put_or
decreases-put_or l = length l.bytes.now
