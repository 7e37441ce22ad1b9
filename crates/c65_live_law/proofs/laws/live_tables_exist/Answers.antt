use Rattle.c65_live_law.proofs.Tables.{live_tables_exist}
use Rattle.c65_live_law.proofs.laws.live_tables_exist.Goals as goal

pub returns : goal.returns
returns c = live_tables_exist
