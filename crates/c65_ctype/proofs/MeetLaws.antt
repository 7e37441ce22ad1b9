-- Two functions side by side, as the code goes through them.
use Rattle.std.proofs.Common.{◌≡◌, ℕ, zero, suc, ◌<◌, ◌≤◌, List, [], ◌∷◌, length, drop, map, refl, sym, ap, ◌∙◌, arith, Some, None, Bool, true, false, nat_eq, not}
use Rattle.std.specs.Prelude.{option_and_then, if◌then◌else◌}
use Rattle.std.proofs.lemmas.Bool.{eqb-true, eqb-false}
use mathlib.Core.Bool.{beq}
use Rattle.std.proofs.lemmas.List.{drop_all}
use Rattle.c65_ctype.specs.declared.types.QType.{QType}
use Rattle.c65_ctype.specs.declared.types.FnType.{FnType, out-FnType}
use Rattle.c65_ctype.specs.declared.types.Member.{Member}
use Rattle.c65_ctype.specs.Trees.{MemberTy, Fn, fn, QTy, QTys, end, more, unknown, known}
use Rattle.c65_ctype.specs.Views.{qty_of, fn_of, qtys_of, params_in, member_of}
use Rattle.c65_ctype.specs.Compatible.{Pairs, met, same_bool, all_stay, qualified_meet, functions_meet, params_meet, lists_meet, members_meet}
use Rattle.c65_ctype.proofs.ViewLaws.{fn_view}

pub same_bools : (b c : Bool) → not (beq b c) ≡ false → same_bool b c ≡ true
same_bools true true e = refl
same_bools true false e = sym e
same_bools false true e = sym e
same_bools false false e = refl

met_if : (b : Bool) (ps : Pairs) → met b ps ≡ (if b then Some ps else None)
met_if true ps = refl
met_if false ps = refl

-- the results meet, and so the parameters are left
pub functions_by : (ps qs : Pairs) (f g : FnType) (b : Bool) → not (beq (out-FnType f).cdecl (out-FnType g).cdecl) ≡ false → met b qs ≡ qualified_meet ps (qty_of (out-FnType f).result) (qty_of (out-FnType g).result) → b ≡ true → functions_meet ps (fn_of f) (fn_of g) ≡ params_meet qs (params_in (out-FnType f).params) (out-FnType f).variadic (params_in (out-FnType g).params) (out-FnType g).variadic
functions_by ps qs f g b stack results meets =
    let cs = same_bools (out-FnType f).cdecl (out-FnType g).cdecl stack in
    let rs : qualified_meet ps (qty_of (out-FnType f).result) (qty_of (out-FnType g).result) ≡ Some qs = sym results ∙ ap (λ (d : Bool). met d qs) meets in
    ap (λ (x : Fn). functions_meet ps x (fn_of g)) (fn_view f)
    ∙ ap (functions_meet ps (fn (qty_of (out-FnType f).result) (params_in (out-FnType f).params) (out-FnType f).variadic (out-FnType f).cdecl)) (fn_view g)
    ∙ ap (λ (d : Bool). if d then option_and_then (λ given. params_meet given (params_in (out-FnType f).params) (out-FnType f).variadic (params_in (out-FnType g).params) (out-FnType g).variadic) (qualified_meet ps (qty_of (out-FnType f).result) (qty_of (out-FnType g).result)) else None) cs
    ∙ ap (option_and_then (λ given. params_meet given (params_in (out-FnType f).params) (out-FnType f).variadic (params_in (out-FnType g).params) (out-FnType g).variadic)) rs

pub unknown_known : (qs : Pairs) (va vb b : Bool) (types : QTys) → vb ≡ false → b ≡ all_stay types → met b qs ≡ params_meet qs unknown va (known types) vb
unknown_known qs va vb b types plain stay = met_if b qs ∙ rw (plain, stay) refl

pub known_unknown : (qs : Pairs) (va vb b : Bool) (types : QTys) → va ≡ false → b ≡ all_stay types → met b qs ≡ params_meet qs (known types) va unknown vb
known_unknown qs va vb b types plain stay = met_if b qs ∙ rw (plain, stay) refl

-- both lists of parameters
pub known_known : (qs : Pairs) (va vb : Bool) (xs ys : QTys) → not (beq va vb) ≡ false → params_meet qs (known xs) va (known ys) vb ≡ lists_meet qs xs ys
known_known qs va vb xs ys same = ap (λ (d : Bool). if d then lists_meet qs xs ys else None) (same_bools va vb same)

more_left : (ys : List QType) (i : ℕ) → i < length ys → (q : QTy) × (qs : QTys) × (qtys_of (drop i ys) ≡ more q qs)
more_left [] i below = absurd (omega arith)
more_left (y ∷ ys) zero below = (qty_of y, qtys_of ys, refl)
more_left (y ∷ ys) (suc i) below = more_left ys i (omega arith)

pub lists_end : (ps : Pairs) (xs ys : List QType) (i : ℕ) → length xs ≤ i → i ≤ length xs → i ≤ length ys → met (nat_eq (length xs) (length ys)) ps ≡ lists_meet ps (qtys_of (drop i xs)) (qtys_of (drop i ys))
lists_end ps xs ys i past within inside =
    tested (nat_eq (length xs) (length ys)) refl ∙ ap (λ (zs : List QType). lists_meet ps (qtys_of zs) (qtys_of (drop i ys))) (sym (drop_all i xs past))
  where
    tested : (b : Bool) → nat_eq (length xs) (length ys) ≡ b → met (nat_eq (length xs) (length ys)) ps ≡ lists_meet ps end (qtys_of (drop i ys))
    tested true e =
        let same = eqb-true (length xs) (length ys) e in
        ap (λ (b : Bool). met b ps) e ∙ ap (λ (zs : List QType). lists_meet ps end (qtys_of zs)) (sym (drop_all i ys (omega arith)))
    tested false e =
        let other = eqb-false (length xs) (length ys) e in
        let below : i < length ys = omega arith in
        let left = more_left ys i below in
        ap (λ (b : Bool). met b ps) e ∙ ap (lists_meet ps end) (sym left.2)

more_members : (ys : List Member) (i : ℕ) → i < length ys → (q : MemberTy) × (qs : List MemberTy) × (map member_of (drop i ys) ≡ q ∷ qs)
more_members [] i below = absurd (omega arith)
more_members (y ∷ ys) zero below = (member_of y, map member_of ys, refl)
more_members (y ∷ ys) (suc i) below = more_members ys i (omega arith)

pub members_end : (ps : Pairs) (xs ys : List Member) (i : ℕ) → length xs ≤ i → i ≤ length xs → i ≤ length ys → met (nat_eq (length xs) (length ys)) ps ≡ members_meet ps (map member_of (drop i xs)) (map member_of (drop i ys))
members_end ps xs ys i past within inside =
    tested (nat_eq (length xs) (length ys)) refl ∙ ap (λ (zs : List Member). members_meet ps (map member_of zs) (map member_of (drop i ys))) (sym (drop_all i xs past))
  where
    tested : (b : Bool) → nat_eq (length xs) (length ys) ≡ b → met (nat_eq (length xs) (length ys)) ps ≡ members_meet ps [] (map member_of (drop i ys))
    tested true e =
        let same = eqb-true (length xs) (length ys) e in
        ap (λ (b : Bool). met b ps) e ∙ ap (λ (zs : List Member). members_meet ps [] (map member_of zs)) (sym (drop_all i ys (omega arith)))
    tested false e =
        let other = eqb-false (length xs) (length ys) e in
        let below : i < length ys = omega arith in
        let left = more_members ys i below in
        ap (λ (b : Bool). met b ps) e ∙ ap (members_meet ps []) (sym left.2)
