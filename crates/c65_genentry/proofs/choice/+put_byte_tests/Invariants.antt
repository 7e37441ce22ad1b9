use Rattle.std.proofs.Common.{length}
use Rattle.c65_genentry.proofs.choice.+put_byte_tests.Given as goal

abbrev pub decreases-put_byte_tests : goal.decreases-put_byte_tests
decreases-put_byte_tests l = length l.values.now
