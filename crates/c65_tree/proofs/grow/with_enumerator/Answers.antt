use Rattle.std.proofs.Common.{ap, ◌∙◌}
use Rattle.std.proofs.lemmas.Result.{IfOk-weaker}
use Rattle.c65_tree.specs.Trees
use Rattle.c65_tree.specs.View as v
use Rattle.c65_tree.proofs.Growing
use Rattle.c65_tree.proofs.grow.with_enumerator.Goals as goal

pub returns : goal.returns
returns c = IfOk-weaker c.with_last.result _ _ (λ x e. ap (v.enumerators_from Trees.no_more_enumerators) e ∙ Growing.enumerators_push Trees.no_more_enumerators c.args.list.items c.args.enumerator) c.with_last.ensures
