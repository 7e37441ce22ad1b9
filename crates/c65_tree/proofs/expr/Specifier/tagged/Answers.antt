use Rattle.c65_tree.proofs.Views
use Rattle.c65_tree.proofs.expr.Specifier.tagged.Goals as goal

pub returns : goal.returns
returns c = Views.tagged_view c.args.pos c.args.union c.args.tag c.args.members
