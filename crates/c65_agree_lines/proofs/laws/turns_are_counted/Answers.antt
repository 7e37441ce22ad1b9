use Rattle.c65_agree_lines.proofs.Turns.{turns_are_counted}
use Rattle.c65_agree_lines.proofs.laws.turns_are_counted.Goals as goal

pub returns : goal.returns
returns c = turns_are_counted
