use Rattle.std.proofs.Common.{ap, ◌∙◌}
use Rattle.std.proofs.lemmas.Result.{IfOk-weaker}
use Rattle.c65_tree.specs.Trees
use Rattle.c65_tree.specs.View as v
use Rattle.c65_tree.proofs.Growing
use Rattle.c65_tree.proofs.grow.with_init.Goals as goal

pub returns : goal.returns
returns c = IfOk-weaker c.with_last.result _ _ (λ x e. ap (v.inits_from Trees.no_inits) e ∙ Growing.inits_push Trees.no_inits c.args.list.items c.args.init) c.with_last.ensures
