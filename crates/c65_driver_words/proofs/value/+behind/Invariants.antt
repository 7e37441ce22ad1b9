use Rattle.std.proofs.Common.{length}
use Rattle.c65_driver_words.proofs.value.+behind.Given as goal

abbrev pub decreases-behind : goal.decreases-behind
decreases-behind l = length l.beginning.now
