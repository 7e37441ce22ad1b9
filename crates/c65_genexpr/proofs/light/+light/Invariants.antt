use Rattle.c65_csem.specs.Views.{typed_of}
use Rattle.c65_genexpr.specs.Uses.{count}
use Rattle.c65_genexpr.proofs.light.+light.Given as goal

abbrev pub decreases-is_light_index : goal.decreases-is_light_index
decreases-is_light_index l = count (typed_of l.e.now)

abbrev pub decreases-is_light_sum : goal.decreases-is_light_sum
decreases-is_light_sum l = count (typed_of l.e.now)

abbrev pub decreases-is_light : goal.decreases-is_light
decreases-is_light l = count (typed_of l.e.now)
