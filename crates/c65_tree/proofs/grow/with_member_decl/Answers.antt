use Rattle.std.proofs.Common.{ap, ◌∙◌}
use Rattle.std.proofs.lemmas.Result.{IfOk-weaker}
use Rattle.c65_tree.specs.Trees
use Rattle.c65_tree.specs.View as v
use Rattle.c65_tree.proofs.Growing
use Rattle.c65_tree.proofs.grow.with_member_decl.Goals as goal

pub returns : goal.returns
returns c = IfOk-weaker c.with_last.result _ _ (λ x e. ap (v.member_decls_from Trees.no_member_decls) e ∙ Growing.member_decls_push Trees.no_member_decls c.args.list.items c.args.decl) c.with_last.ensures
