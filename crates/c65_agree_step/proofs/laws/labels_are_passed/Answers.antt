use Rattle.c65_agree_step.proofs.Ways.{labels_are_passed}
use Rattle.c65_agree_step.proofs.laws.labels_are_passed.Goals as goal

pub returns : goal.returns
returns c = labels_are_passed
