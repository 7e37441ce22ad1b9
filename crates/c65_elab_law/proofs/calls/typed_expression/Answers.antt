use Rattle.c65_csem.specs.Views.{typed_of}
use Rattle.c65_elab_scope.specs.Scopes.{scope_of}
use Rattle.c65_tree.specs.View.{expr_of}
use Rattle.c65_elab_law.proofs.Answered.{if_gives}
use Rattle.c65_elab_law.proofs.TypingLaws.{typed_keeps}
use Rattle.c65_elab_law.proofs.calls.typed_expression.Goals as goal

pub returns : goal.returns
returns c = if_gives _ _ c.elab_expr.result _ c.elab_expr.ensures (λ e same. typed_keeps (expr_of c.args.expr.now) c.requires.ranged (scope_of c.args.scope.now) (typed_of e, scope_of c.elab_expr.new.scope) c.requires.scoped same)
