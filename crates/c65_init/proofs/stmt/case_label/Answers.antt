use Rattle.std.proofs.Common.{ℤ, rules, subst, w64, arith}
use Rattle.std.proofs.lemmas.Int.{to_z-of_z, ints}
use Rattle.c65_base.specs.Answers.{Gives}
use Rattle.c65_csem.specs.Views.{typed_of}
use Rattle.c65_elab_scope.specs.Scopes.{scope_of}
use Rattle.c65_init.specs.Bodies.{body_of, case_met}
use Rattle.c65_init.proofs.BodyLaws.{case_labelled}
use Rattle.c65_init.proofs.stmt.case_label.Goals as goal

pub returns : goal.returns
returns c =
    let exact = subst (λ (z : ℤ). Gives (λ y. (y, body_of c.case_value.new.body)) c.case_value.result (case_met (body_of c.args.body.now) z c.args.pos)) (to_z-of_z w64 c.in_ok-known.known (first_of (search rules, search (rules, c.value_at.type_inv), grind (arith, c.value_at.type_inv), omega (arith, ints)))) c.case_value.ensures.exact in
    case_labelled c.args.e.now c.args.pos (body_of c.args.body.now) (body_of c.case_value.new.body) (scope_of c.args.scope.now) (scope_of c.elab_expr.new.scope) (typed_of c.in_ok-typed.typed) c.in_ok-known.known c.case_value.result c.in_ok-typed.ensures c.in_ok-known.ensures exact
