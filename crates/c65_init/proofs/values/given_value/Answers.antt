use Rattle.std.proofs.Common.{◌∙◌, ap, refl, sym, Ok}
use Rattle.c65_ctype.specs.Views.{ty_of}
use Rattle.c65_csem.specs.Trees.{Typed}
use Rattle.c65_csem.specs.Views.{typed_of}
use Rattle.c65_fold.specs.Folded.{folded}
use Rattle.c65_elab_scope.specs.Scopes.{scope_of}
use Rattle.c65_tree.specs.View.{expr_of}
use Rattle.c65_init.proofs.Valued.{gift_given}
use Rattle.c65_init.proofs.values.given_value.Goals as goal

pub returns : goal.returns
returns c = gift_given (ty_of c.args.gives.now) (expr_of c.args.e.now) c.args.pos (scope_of c.args.scope.now) (scope_of c.elab_expr.new.scope) (typed_of c.in_ok-typed.typed) (typed_of c.in_ok-value.value) (scope_of c.elab_expr.new.scope).unit.types (sym c.is_void.ensures ∙ c.if-is_void.false) c.in_ok-typed.ensures refl c.in_ok-value.ensures ∙ ap (λ (x : Typed). Ok (x, scope_of c.elab_expr.new.scope)) (sym (c.folded.ensures ∙ ap folded c.in_ok-passed.ensures))
