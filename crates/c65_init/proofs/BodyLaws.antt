-- The innermost switch, which is the last, and its labels.
use Rattle.std.proofs.Common.{◌≡◌, ◌∙◌, ℕ, zero, suc, ◌-◌, ◌<◌, List, [], ◌∷◌, length, map, get_or, set, Some, None, refl, sym, ap, arith, Ok, Err, ℤ}
use Rattle.std.specs.Prelude.{Result, slice_get}
use Rattle.std.proofs.lemmas.List.{length-map, map-set}
use Rattle.c65_base.specs.declared.refusal.Pos.{Pos}
use Rattle.c65_base.specs.declared.refusal.Refusal.{Refusal}
use Rattle.c65_base.specs.Answers.{Gives, ◌>>=◌}
use Rattle.c65_ints.specs.Ranges.{wrap_of}
use Rattle.c65_csem.specs.Trees.{Typed}
use Rattle.c65_elab_scope.specs.Scopes.{ScopeTy}
use Rattle.c65_tree.specs.declared.expr.Expr.{Expr}
use Rattle.c65_tree.specs.View.{expr_of}
use Rattle.c65_elab.specs.Constants.{value_at}
use Rattle.c65_elab.specs.Places.{place_of}
use Rattle.c65_elab.specs.Typing.{typed}
use Rattle.c65_elab.proofs.Walks.{fails_bind, then_ok, then_fails, gives_then, gives_beside}
use Rattle.c65_init.specs.declared.body.Switch.{Switch}
use Rattle.c65_init.specs.declared.body.Body.{Body}
use Rattle.c65_init.specs.Bodies.{BodyTy, switch_of, body_of, innermost, innermost_in, with_innermost, value_added, case_met}
use Rattle.c65_init.specs.Statements.{case_in}
use Rattle.c65_init.proofs.Places.{place_at}

there : (ws : List Switch) (i : ℕ) (w : Switch) → i < length ws → w ≡ get_or ws i w → slice_get (map switch_of ws) i ≡ Some (switch_of w)
there [] i w h is = absurd (omega (arith, h))
there (v ∷ ws) zero w h is = ap (λ x. Some (switch_of x)) (sym is)
there (v ∷ ws) (suc i) w h is = there ws i w (omega (arith, h)) is

pub last_switch : (ws : List Switch) (w : Switch) → 0 < length ws → w ≡ get_or ws (length ws - 1) w → slice_get (map switch_of ws) (length (map switch_of ws) - 1) ≡ Some (switch_of w)
last_switch ws w h is = ap (λ n. slice_get (map switch_of ws) (n - 1)) (length-map ws switch_of) ∙ there ws (length ws - 1) w (omega (arith, h)) is

pub no_switch : (ws : List Switch) → length ws ≡ 0 → slice_get (map switch_of ws) (length (map switch_of ws) - 1) ≡ None
no_switch [] h = refl
no_switch (w ∷ ws) h = absurd (omega (arith, h))

pub last_set : (ws : List Switch) (w : Switch) → map switch_of (set ws (length ws - 1) w) ≡ set (map switch_of ws) (length (map switch_of ws) - 1) (switch_of w)
last_set ws w = map-set switch_of ws (length ws - 1) w ∙ ap (λ n. set (map switch_of ws) (n - 1) (switch_of w)) (sym (length-map ws switch_of))

-- a case label in the innermost switch
pub case_given : (k : Body) (j : BodyTy) (w v : Switch) (z : ℤ) (p : Pos) (given : Result ℤ Refusal) → 0 < length k.switches.items → w ≡ get_or k.switches.items (length k.switches.items - 1) w → j ≡ with_innermost (body_of k) (switch_of v) → Gives (λ y. (y, switch_of v)) given (value_added (switch_of w) (wrap_of w.kind z) p) → Gives (λ y. (y, j)) given (case_met (body_of k) z p)
case_given k j w v z p (Ok y) h is so e =
    then_ok (innermost (body_of k) p) (switch_of w) (λ u. value_added u (wrap_of u.kind z) p >>= (λ x. Ok (x.0, with_innermost (body_of k) x.1))) (Ok (y, j)) (ap (innermost_in p) (last_switch k.switches.items w h is))
    (then_ok (value_added (switch_of w) (wrap_of w.kind z) p) (y, switch_of v) (λ x. Ok (x.0, with_innermost (body_of k) x.1)) (Ok (y, j)) e (ap (λ i. Ok (y, i)) (sym so)))
case_given k j w v z p (Err e) h is so f =
    then_fails e (innermost (body_of k) p) (switch_of w) (λ u. value_added u (wrap_of u.kind z) p >>= (λ x. Ok (x.0, with_innermost (body_of k) x.1))) (ap (innermost_in p) (last_switch k.switches.items w h is))
    (fails_bind e (value_added (switch_of w) (wrap_of w.kind z) p) (λ x. Ok (x.0, with_innermost (body_of k) x.1)) f)

-- the constant expression of a case label, and its value in the switch
pub case_labelled : (e : Expr) (p : Pos) (k j : BodyTy) (s u : ScopeTy) (x : Typed) (z : ℤ) (given : Result ℤ Refusal) → typed (expr_of e) s ≡ Ok (x, u) → value_at x e.pos ≡ Ok z → Gives (λ y. (y, j)) given (case_met k z p) → Gives (λ y. ((y, j), u)) given (case_in (expr_of e) p k s)
case_labelled e p k j s u x z given is known h =
    gives_then (λ y. ((y, j), u)) given (typed (expr_of e) s) (x, u) (λ a. value_at a.0 (place_of (expr_of e)) >>= (λ v. case_met k v p >>= (λ l. Ok (l, a.1)))) is
    (gives_then (λ y. ((y, j), u)) given (value_at x (place_of (expr_of e))) z (λ v. case_met k v p >>= (λ l. Ok (l, u))) (ap (value_at x) (place_at e) ∙ known)
    (gives_beside (λ y. (y, j)) u given (case_met k z p) h))
