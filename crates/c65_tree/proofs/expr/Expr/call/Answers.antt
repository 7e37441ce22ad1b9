use Rattle.std.proofs.Common.{Vec, Global, ap, ◌∙◌}
use Rattle.c65_tree.specs.Trees
use Rattle.c65_tree.specs.View as v
use Rattle.c65_tree.proofs.Views
use Rattle.c65_tree.specs.declared.expr.Expr.{Expr}
use Rattle.c65_tree.proofs.expr.Expr.call.Goals as goal

pub returns : goal.returns
returns c = Views.call_view c.args.pos c.in_ok-f.f c.in_ok-f.arguments
    ∙ ap (λ (x : Expr). Trees.call c.args.pos (v.expr_of x) (v.exprs_from Trees.no_exprs c.in_ok-f.arguments.items)) c.in_ok-f.ensures.boxed
    ∙ ap (λ (xs : Vec Expr Global). Trees.call c.args.pos (v.expr_of c.args.f) (v.exprs_from Trees.no_exprs xs.items)) c.in_ok-f.ensures.waiting
