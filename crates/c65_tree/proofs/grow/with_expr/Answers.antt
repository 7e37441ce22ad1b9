use Rattle.std.proofs.Common.{ap, ◌∙◌}
use Rattle.std.proofs.lemmas.Result.{IfOk-weaker}
use Rattle.c65_tree.specs.Trees
use Rattle.c65_tree.specs.View as v
use Rattle.c65_tree.proofs.Growing
use Rattle.c65_tree.proofs.grow.with_expr.Goals as goal

pub returns : goal.returns
returns c = IfOk-weaker c.with_last.result _ _ (λ x e. ap (v.exprs_from Trees.no_exprs) e ∙ Growing.exprs_push Trees.no_exprs c.args.list.items c.args.e) c.with_last.ensures
