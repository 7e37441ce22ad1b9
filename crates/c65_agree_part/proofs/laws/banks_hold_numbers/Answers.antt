use Rattle.c65_agree_part.proofs.Homes.{banks_hold_numbers}
use Rattle.c65_agree_part.proofs.laws.banks_hold_numbers.Goals as goal

pub returns : goal.returns
returns c = banks_hold_numbers
