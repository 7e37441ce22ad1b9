use Rattle.c65_link_law_spots.proofs.Units.{units_stand}
use Rattle.c65_link_law_spots.proofs.laws.units_stand.Goals as goal

pub returns : goal.returns
returns c = units_stand
