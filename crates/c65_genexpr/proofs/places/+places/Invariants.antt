use Rattle.c65_csem.specs.Views.{typed_of}
use Rattle.c65_genexpr.specs.Uses.{count}
use Rattle.c65_genexpr.proofs.places.+places.Given as goal

abbrev pub decreases-place_of : goal.decreases-place_of
decreases-place_of l = count (typed_of l.e.now)

abbrev pub decreases-target_of : goal.decreases-target_of
decreases-target_of l = count (typed_of l.e.now)
