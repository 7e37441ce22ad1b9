use Rattle.c65_agree_lines.proofs.Turns.{last_turns_stand}
use Rattle.c65_agree_lines.proofs.laws.last_turns_stand.Goals as goal

pub returns : goal.returns
returns c = last_turns_stand
