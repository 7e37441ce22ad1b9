-- The table of names is changed at one name; declarations are entered one after another.
use Rattle.std.proofs.Common.{◌≡◌, ◌∙◌, ℕ, zero, suc, ◌<◌, ◌≤◌, List, [], ◌∷◌, ◌++◌, length, map, get_or, set, refl, ap, arith}
use Rattle.c65_init_join.specs.declared.table.External.{External}
use Rattle.c65_init_join.specs.Tables.{ExternalTy, external_of, changed, TableTy, DeclarationTy, entered, all_entered}

pub changed_set : (es : List External) (i : ℕ) (e y : External) (f : ExternalTy → ExternalTy) → e ≡ get_or es i e → external_of y ≡ f (external_of e) → i < length es → map external_of (set es i y) ≡ changed f (map external_of es) i
changed_set [] i e y f is so below = absurd (omega arith)
changed_set (x ∷ es) zero e y f is so below = ap (λ (z : ExternalTy). z ∷ map external_of es) (so ∙ ap (λ (z : External). f (external_of z)) is)
changed_set (x ∷ es) (suc i) e y f is so below = ap (λ (zs : List ExternalTy). external_of x ∷ zs) (changed_set es i e y f is so (omega arith))

pub changed_past : (es : List External) (i : ℕ) (f : ExternalTy → ExternalTy) → length es ≤ i → changed f (map external_of es) i ≡ map external_of es
changed_past [] i f h = refl
changed_past (x ∷ es) zero f h = absurd (omega arith)
changed_past (x ∷ es) (suc i) f h = ap (λ (zs : List ExternalTy). external_of x ∷ zs) (changed_past es i f (omega arith))

pub entered_append : (t : TableTy) (xs ys : List DeclarationTy) → all_entered t (xs ++ ys) ≡ all_entered (all_entered t xs) ys
entered_append t [] ys = refl
entered_append t (x ∷ xs) ys = entered_append (entered t x) xs ys
