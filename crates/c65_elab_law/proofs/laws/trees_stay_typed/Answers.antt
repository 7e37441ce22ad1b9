use Rattle.c65_elab_law.proofs.GrowthLaws.{stays, given_stays}
use Rattle.c65_elab_law.proofs.laws.trees_stay_typed.Goals as goal

pub returns : goal.returns
returns c = record {
  trees = λ u v e g w. stays u v g e w;
  given = λ u v e g w. given_stays u v g e w;
}
