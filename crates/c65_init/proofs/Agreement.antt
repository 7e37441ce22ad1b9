-- The types of a prototype and the parameters of a definition, pair by pair.
use Rattle.std.proofs.Common.{◌≡◌, ℕ, zero, suc, ◌<◌, ◌≤◌, List, [], ◌∷◌, length, drop, refl, sym, ap, ◌∙◌, arith, Some, Bool, true, false, nat_eq, subst, Ok}
use Rattle.std.specs.Prelude.{Option, Result}
use Rattle.c65_base.specs.declared.refusal.Refusal.{Refusal}
use Rattle.c65_base.specs.Answers.{Gives}
use Rattle.std.specs.Global.{Vec}
use Rattle.std.proofs.lemmas.Bool.{eqb-true, eqb-false}
use Rattle.std.proofs.lemmas.List.{drop_all}
use Rattle.c65_ctype.specs.declared.types.QType.{QType}
use Rattle.c65_ctype.specs.declared.types.FnType.{FnType, out-FnType}
use Rattle.c65_ctype.specs.Trees.{Fn, fn, end}
use Rattle.c65_ctype.specs.Views.{qty_of, fn_of, qtys_of, params_in}
use Rattle.c65_ctype.proofs.ViewLaws.{fn_view}
use Rattle.c65_csem.specs.Trees.{UnitTy}
use Rattle.c65_init.specs.Agreeing.{all_take, agree}

numbers_left : (ys : List ℕ) (i : ℕ) → i < length ys → (n : ℕ) × (ns : List ℕ) × (drop i ys ≡ n ∷ ns)
numbers_left [] i below = absurd (omega arith)
numbers_left (y ∷ ys) zero below = (y, ys, refl)
numbers_left (y ∷ ys) (suc i) below = numbers_left ys i (omega arith)

-- all types were gone through: the parameters have to be as many
pub take_end : (u : UnitTy) (xs : List QType) (ys : List ℕ) (i : ℕ) → length xs ≤ i → i ≤ length xs → i ≤ length ys → nat_eq (length xs) (length ys) ≡ all_take u (qtys_of (drop i xs)) (drop i ys)
take_end u xs ys i past within inside =
    tested (nat_eq (length xs) (length ys)) refl ∙ ap (λ (zs : List QType). all_take u (qtys_of zs) (drop i ys)) (sym (drop_all i xs past))
  where
    tested : (t : Bool) → nat_eq (length xs) (length ys) ≡ t → nat_eq (length xs) (length ys) ≡ all_take u end (drop i ys)
    tested true e =
        let same = eqb-true (length xs) (length ys) e in
        e ∙ ap (λ (zs : List ℕ). all_take u end zs) (sym (drop_all i ys (omega arith)))
    tested false e =
        let other = eqb-false (length xs) (length ys) e in
        let below : i < length ys = omega arith in
        let left = numbers_left ys i below in
        e ∙ ap (all_take u end) (sym left.2)

pub agree_by : (u : UnitTy) (f : FnType) (types : Vec QType) (ys : List QType) (ns : List ℕ) → (out-FnType f).params ≡ Some types → ys ≡ types.items → all_take u (qtys_of ys) ns ≡ agree u (fn_of f) ns
agree_by u f types ys ns is list =
    ap (λ (zs : List QType). all_take u (qtys_of zs) ns) list
    ∙ ap (λ (o : Option (Vec QType)). agree u (fn (qty_of (out-FnType f).result) (params_in o) (out-FnType f).variadic (out-FnType f).cdecl) ns) (sym is)
    ∙ ap (λ (w : Fn). agree u w ns) (sym (fn_view f))

pub gives_same : (r : Result Bool Refusal) (a b : Bool) → a ≡ b → Gives (λ c. c) r (Ok a) → Gives (λ c. c) r (Ok b)
gives_same r a b e h = subst (λ (d : Bool). Gives (λ c. c) r (Ok d)) e h
