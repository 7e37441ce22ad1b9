use Rattle.std.proofs.Common.{ap, ◌∙◌}
use Rattle.std.proofs.lemmas.Result.{IfOk-weaker}
use Rattle.c65_tree.specs.Trees
use Rattle.c65_tree.specs.View as v
use Rattle.c65_tree.proofs.Growing
use Rattle.c65_tree.proofs.grow.with_stmt.Goals as goal

pub returns : goal.returns
returns c = IfOk-weaker c.with_last.result _ _ (λ x e. ap (v.stmts_from Trees.no_stmts) e ∙ Growing.stmts_push Trees.no_stmts c.args.list.items c.args.stmt) c.with_last.ensures
