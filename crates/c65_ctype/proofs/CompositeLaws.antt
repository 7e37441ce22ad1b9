-- The composite of two lists of parameters, one parameter after another.
use Rattle.std.proofs.Common.{◌≡◌, ℕ, ◌+◌, ◌<◌, ◌≤◌, List, [], ◌∷◌, ◌++◌, length, drop, get_or, refl, sym, ap, ◌∙◌, Some, None, inl, inr}
use Rattle.std.proofs.lemmas.List.{drop_more, drop_all}
use Rattle.c65_ctype.specs.declared.types.QType.{QType}
use Rattle.std.specs.Prelude.{Option, slice_get}
use Rattle.std.specs.Global.{Vec}
use Rattle.std.proofs.lemmas.Option.{slice_get_cases}
use Rattle.c65_ctype.specs.declared.types.FnType.{FnType, out-FnType}
use Rattle.c65_ctype.specs.Trees.{Fn, fn, Params, known, QTy, QTys, end, more, TypesTy}
use Rattle.c65_ctype.specs.Views.{qty_of, qtys_of, fn_of, params_in}
use Rattle.c65_ctype.specs.Composite.{composite_of, composite_fn, composite_params, composite_all, composite_param}
use Rattle.c65_ctype.proofs.ViewLaws.{fn_view}

-- one list behind another
abbrev pub joined : QTys → QTys → QTys
joined end ys = ys
joined (more x xs) ys = more x (joined xs ys)

joined_push : (ps : List QType) (x : QType) (rest : QTys) → joined (qtys_of (ps ++ x ∷ [])) rest ≡ joined (qtys_of ps) (more (qty_of x) rest)
joined_push [] x rest = refl
joined_push (p ∷ ps) x rest = ap (more (qty_of p)) (joined_push ps x rest)

joined_end : (xs : QTys) → joined xs end ≡ xs
joined_end end = refl
joined_end (more x xs) = ap (more x) (joined_end xs)

all_end : (types : TypesTy) (xs : QTys) → composite_all types xs end ≡ end
all_end types end = refl
all_end types (more x xs) = refl

split : (xs : List QType) (i : ℕ) (x : QType) → i < length xs → x ≡ get_or xs i x → qtys_of (drop i xs) ≡ more (qty_of x) (qtys_of (drop (i + 1) xs))
split xs i x below is = ap qtys_of (drop_more xs i x below) ∙ ap (λ (y : QType). more (qty_of y) (qtys_of (drop (i + 1) xs))) (sym is)

-- both lists have one more parameter
pub both_next : (types : TypesTy) (ps xs ys : List QType) (i : ℕ) (q r z : QType) → i < length xs → q ≡ get_or xs i q → i < length ys → r ≡ get_or ys i r → qty_of z ≡ composite_param types (qty_of q) (qty_of r) → joined (qtys_of (ps ++ z ∷ [])) (composite_all types (qtys_of (drop (i + 1) xs)) (qtys_of (drop (i + 1) ys))) ≡ joined (qtys_of ps) (composite_all types (qtys_of (drop i xs)) (qtys_of (drop i ys)))
both_next types ps xs ys i q r z in_xs q_is in_ys r_is made =
    joined_push ps z (composite_all types (qtys_of (drop (i + 1) xs)) (qtys_of (drop (i + 1) ys)))
    ∙ ap (λ (x : QTy). joined (qtys_of ps) (more x (composite_all types (qtys_of (drop (i + 1) xs)) (qtys_of (drop (i + 1) ys))))) made
    ∙ ap (λ (b : QTys). joined (qtys_of ps) (composite_all types (more (qty_of q) (qtys_of (drop (i + 1) xs))) b)) (sym (split ys i r in_ys r_is))
    ∙ ap (λ (a : QTys). joined (qtys_of ps) (composite_all types a (qtys_of (drop i ys)))) (sym (split xs i q in_xs q_is))

pub both_end : (types : TypesTy) (ps xs : List QType) (ys : QTys) (i : ℕ) → length xs ≤ i → joined (qtys_of ps) (composite_all types (qtys_of (drop i xs)) ys) ≡ qtys_of ps
both_end types ps xs ys i past =
    ap (λ (a : List QType). joined (qtys_of ps) (composite_all types (qtys_of a) ys)) (drop_all i xs past) ∙ joined_end (qtys_of ps)

pub composite_by : (types : TypesTy) (f g : FnType) (x : Fn) (given : QType) (ps : Params) → x ≡ fn (qty_of given) ps (out-FnType f).variadic (out-FnType f).cdecl → qty_of given ≡ composite_of types (qty_of (out-FnType f).result) (qty_of (out-FnType g).result) → ps ≡ composite_params types (params_in (out-FnType f).params) (params_in (out-FnType g).params) → x ≡ composite_fn types (fn_of f) (fn_of g)
composite_by types f g x given ps made results params =
    let variadic = (out-FnType f).variadic in
    let cdecl = (out-FnType f).cdecl in
    made
    ∙ ap (λ (q : QTy). fn q ps variadic cdecl) results
    ∙ ap (λ (qs : Params). fn (composite_of types (qty_of (out-FnType f).result) (qty_of (out-FnType g).result)) qs variadic cdecl) params
    ∙ ap (composite_fn types (fn (qty_of (out-FnType f).result) (params_in (out-FnType f).params) variadic cdecl)) (sym (fn_view g))
    ∙ ap (λ (h : Fn). composite_fn types h (fn_of g)) (sym (fn_view f))

-- no parameter is left in the second list
pub both_past : (types : TypesTy) (ps xs ys : List QType) (i : ℕ) → slice_get ys i ≡ None → joined (qtys_of ps) (composite_all types (qtys_of (drop i xs)) (qtys_of (drop i ys))) ≡ qtys_of ps
both_past types ps xs ys i none =
    ap (λ (b : List QType). joined (qtys_of ps) (composite_all types (qtys_of (drop i xs)) (qtys_of b))) (drop_all i ys (past ys i none))
    ∙ ap (joined (qtys_of ps)) (all_end types (qtys_of (drop i xs))) ∙ joined_end (qtys_of ps)
  where
    past : (zs : List QType) (j : ℕ) → slice_get zs j ≡ None → length zs ≤ j
    past zs j e = elim (slice_get_cases zs j).1 as (λ w. length zs ≤ j) [ inl w ↦ absurd (let bad : Some w.0 ≡ None = sym w.2 ∙ e in cc) | inr w ↦ w.0 ]

-- the joined list is that of both prototypes
pub params_joined : (types : TypesTy) (f g : FnType) (a b : Vec QType) (xs ys : List QType) (ps : QTys) → ps ≡ composite_all types (qtys_of xs) (qtys_of ys) → xs ≡ a.items → ys ≡ b.items → (out-FnType f).params ≡ Some a → (out-FnType g).params ≡ Some b → known ps ≡ composite_params types (params_in (out-FnType f).params) (params_in (out-FnType g).params)
params_joined types f g a b xs ys ps joins xs_is ys_is f_is g_is =
    ap known joins
    ∙ ap (λ (zs : List QType). known (composite_all types (qtys_of zs) (qtys_of ys))) xs_is
    ∙ ap (λ (zs : List QType). known (composite_all types (qtys_of a.items) (qtys_of zs))) ys_is
    ∙ ap (λ (o : Option (Vec QType)). composite_params types (params_in o) (params_in (Some b))) (sym f_is)
    ∙ ap (λ (o : Option (Vec QType)). composite_params types (params_in (out-FnType f).params) (params_in o)) (sym g_is)
