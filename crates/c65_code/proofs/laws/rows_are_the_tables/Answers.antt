use Rattle.c65_code.proofs.OpcodeLaws.{rows_are_the_tables, added_rows_are_the_tables}
use Rattle.c65_code.proofs.laws.rows_are_the_tables.Goals as goal

pub returns-clause-nmos : goal.returns-clause-nmos
returns-clause-nmos c = rows_are_the_tables

pub returns-clause-added : goal.returns-clause-added
returns-clause-added c = added_rows_are_the_tables
