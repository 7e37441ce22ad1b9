use Rattle.c65_link.proofs.TableLaws.{opcodes_are_the_tables}
use Rattle.c65_link.proofs.laws.opcodes_are_the_tables.Goals as goal

pub returns : goal.returns
returns c = opcodes_are_the_tables
