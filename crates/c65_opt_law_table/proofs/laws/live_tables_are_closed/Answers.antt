use Rattle.c65_opt_law_table.proofs.Tables.{live_tables_are_closed}
use Rattle.c65_opt_law_table.proofs.laws.live_tables_are_closed.Goals as goal

pub returns : goal.returns
returns c = live_tables_are_closed
