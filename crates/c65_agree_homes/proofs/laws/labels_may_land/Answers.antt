use Rattle.c65_agree_homes.proofs.Begins.{labels_may_land}
use Rattle.c65_agree_homes.proofs.laws.labels_may_land.Goals as goal

pub returns : goal.returns
returns c = labels_may_land
