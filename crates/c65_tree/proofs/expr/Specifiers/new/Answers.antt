use Rattle.c65_tree.proofs.Made
use Rattle.c65_tree.proofs.expr.Specifiers.new.Goals as goal

pub returns : goal.returns
returns c = Made.specifiers_made c.args.pos c.args.items
