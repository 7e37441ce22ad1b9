use Rattle.c65_agree_lines.proofs.Stand.{parts_stand}
use Rattle.c65_agree_lines.proofs.laws.parts_stand.Goals as goal

pub returns : goal.returns
returns c = parts_stand
