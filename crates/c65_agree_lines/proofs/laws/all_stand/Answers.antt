use Rattle.c65_agree_lines.proofs.Stand.{all_stand}
use Rattle.c65_agree_lines.proofs.laws.all_stand.Goals as goal

pub returns : goal.returns
returns c = all_stand
