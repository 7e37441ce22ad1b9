use Rattle.c65_agree_slots.proofs.Shapes.{results_have_shapes}
use Rattle.c65_agree_slots.proofs.laws.results_have_shapes.Goals as goal

pub returns : goal.returns
returns c = results_have_shapes
