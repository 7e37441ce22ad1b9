use Rattle.std.proofs.Common.{length}
use Rattle.c65_elab_declare.proofs.parts.+built.Given as goal

abbrev pub decreases-built : goal.decreases-built
decreases-built l = length l.parts.now
