-- The parameters of a function, and lists of types.
use Rattle.std.proofs.Common.{◌≡◌, ◌∙◌, suc, List, [], ◌∷◌, length, refl, sym, ap, arith}
use Rattle.std.proofs.lemmas.Bool.Decides.{nat_tests}
use Rattle.std.specs.Prelude.{Bool, false, not, ◌&&◌, ◌||◌, ◌==◌, Option, Some}
use Rattle.std.specs.Global.{Vec}
use Rattle.c65_ctype.specs.declared.types.QType.{QType}
use Rattle.c65_ctype.specs.declared.types.FnType.{FnType, out-FnType}
use Rattle.c65_ctype.specs.Trees.{Fn}
use Rattle.c65_ctype.specs.Views.{qtys_of, fn_of, params_in}
use Rattle.c65_ctype.proofs.ViewLaws.{fn_view}
use Rattle.c65_init_join.specs.Checks

some_given : (ys : List QType) → not (length ys == 0) ≡ Checks.has_some (qtys_of ys)
some_given [] = refl
some_given (y ∷ ys) = let other : (suc (length ys) == 0) ≡ false = grind (arith, nat_tests) in ap not other

pub words_given : (f : FnType) (types : Vec QType) (ys : List QType) → (out-FnType f).params ≡ Some types → ys ≡ types.items → not (length ys == 0) ≡ Checks.has_words (Checks.params_in (fn_of f))
words_given f types ys is list =
    some_given ys
    ∙ ap (λ (zs : List QType). Checks.has_some (qtys_of zs)) list
    ∙ ap (λ (o : Option (Vec QType)). Checks.has_words (params_in o)) (sym is)
    ∙ ap (λ (w : Fn). Checks.has_words (Checks.params_in w)) (sym (fn_view f))

pub and_same : {a b x y : Bool} → a ≡ x → b ≡ y → (a && b) ≡ (x && y)
and_same {b = b} {x = x} p q = ap (λ (t : Bool). t && b) p ∙ ap (λ (t : Bool). x && t) q

pub or_same : {a b x y : Bool} → a ≡ x → b ≡ y → (a || b) ≡ (x || y)
or_same {b = b} {x = x} p q = ap (λ (t : Bool). t || b) p ∙ ap (λ (t : Bool). x || t) q
