use Rattle.c65_csem.proofs.RowLaws.{stmt_of_block}
use Rattle.c65_csem.proofs.stmt.TStmt.block.Goals as goal

pub returns : goal.returns
returns c = stmt_of_block c.args.objects c.args.stmts
