use Rattle.c65_rtl.proofs.AllRows.{rows_are_met}
use Rattle.c65_rtl.proofs.laws.rows_are_met.Goals as goal

pub returns : goal.returns
returns c = rows_are_met
