use Rattle.std.proofs.Common.{ap, ◌∙◌}
use Rattle.c65_ctype.specs.Views.{qty_of}
use Rattle.c65_csem.specs.declared.expr.TExpr.{TExpr}
use Rattle.c65_csem.specs.Trees.{node, call}
use Rattle.c65_csem.specs.Views.{typed_of, nodes_of}
use Rattle.c65_csem.proofs.RowLaws.{node_of_call}
use Rattle.c65_csem.proofs.expr.TExpr.call.Goals as goal

pub returns : goal.returns
returns c =
    ap (node (qty_of c.args.ty)) (node_of_call c.in_ok-function.function c.args.arguments ∙ ap (λ (g : TExpr). call (typed_of g) (nodes_of c.args.arguments.items)) c.in_ok-function.ensures.ok)
