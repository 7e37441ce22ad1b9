use Rattle.c65_tree.proofs.Views
use Rattle.c65_tree.proofs.stmt.Stmt.block.Goals as goal

pub returns : goal.returns
returns c = Views.block_view c.args.pos c.args.decls c.args.stmts
