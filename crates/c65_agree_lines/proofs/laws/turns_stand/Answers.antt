use Rattle.c65_agree_lines.proofs.Turns.{turns_stand}
use Rattle.c65_agree_lines.proofs.laws.turns_stand.Goals as goal

pub returns : goal.returns
returns c = turns_stand
