-- The prototypes of definitions, as the code makes them.
use Rattle.std.proofs.Common.{◌≡◌, ◌∙◌, ℕ, List, [], ◌∷◌, map, refl, sym, ap, Option, Some, None}
use Rattle.std.specs.Global.{Vec}
use Rattle.c65_ctype.specs.declared.types.QType.{QType}
use Rattle.c65_ctype.specs.declared.types.FnType.{FnType, out-FnType}
use Rattle.c65_ctype.specs.Trees.{Fn, fn, known, QTy, QTys, more}
use Rattle.c65_ctype.specs.Views.{qty_of, qtys_of, fn_of, params_in}
use Rattle.c65_ctype.proofs.ViewLaws.{fn_view}
use Rattle.c65_csem.specs.Trees.{ObjectTy}
use Rattle.c65_init_join.specs.Definitions.{row_of, with_row, parameter_types, own_prototype, promoted, defined_as}

row_is : (qs : List QType) → qtys_of qs ≡ row_of (map qty_of qs)
row_is [] = refl
row_is (q ∷ qs) = ap (more (qty_of q)) (row_is qs)

-- a result and a list of types beside the words of a function's type
pub row_given : (f : FnType) (q : QTy) (qs : List QType) → q ≡ qty_of (out-FnType f).result → fn q (known (qtys_of qs)) (out-FnType f).variadic (out-FnType f).cdecl ≡ with_row (map qty_of qs) (fn_of f)
row_given f q qs result =
    ap (λ (r : QTy). fn r (known (qtys_of qs)) (out-FnType f).variadic (out-FnType f).cdecl) result
    ∙ ap (λ (ps : QTys). fn (qty_of (out-FnType f).result) (known ps) (out-FnType f).variadic (out-FnType f).cdecl) (row_is qs)
    ∙ sym (ap (with_row (map qty_of qs)) (fn_view f))

abbrev seen : FnType → Option (Vec QType) → Fn
seen f o = fn (qty_of (out-FnType f).result) (params_in o) (out-FnType f).variadic (out-FnType f).cdecl

seen_is : (f : FnType) (o : Option (Vec QType)) → (out-FnType f).params ≡ o → fn_of f ≡ seen f o
seen_is f o e = fn_view f ∙ ap (seen f) e

pub own_known : (os : List ObjectTy) (is : List ℕ) (f : FnType) (types : Vec QType) → (out-FnType f).params ≡ Some types → fn_of f ≡ own_prototype os is (fn_of f)
own_known os is f types e = seen_is f (Some types) e ∙ sym (ap (own_prototype os is) (seen_is f (Some types) e))

pub own_unknown : (os : List ObjectTy) (is : List ℕ) (f : FnType) → (out-FnType f).params ≡ None → with_row (parameter_types os is) (fn_of f) ≡ own_prototype os is (fn_of f)
own_unknown os is f e = ap (with_row (parameter_types os is)) (seen_is f None e) ∙ sym (ap (own_prototype os is) (seen_is f None e))

pub defined_known : (os : List ObjectTy) (is : List ℕ) (f : FnType) (types : Vec QType) → (out-FnType f).params ≡ Some types → fn_of f ≡ defined_as os is (fn_of f)
defined_known os is f types e = seen_is f (Some types) e ∙ sym (ap (defined_as os is) (seen_is f (Some types) e))

pub defined_unknown : (os : List ObjectTy) (is : List ℕ) (f : FnType) → (out-FnType f).params ≡ None → with_row (map promoted (parameter_types os is)) (fn_of f) ≡ defined_as os is (fn_of f)
defined_unknown os is f e = ap (with_row (map promoted (parameter_types os is))) (seen_is f None e) ∙ sym (ap (defined_as os is) (seen_is f None e))
