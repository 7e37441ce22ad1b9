-- Items of a unit that are changed one after another.
use Rattle.std.proofs.Common.{◌≡◌, ◌∙◌, ℕ, zero, suc, ◌+◌, ◌<◌, ◌≤◌, List, [], ◌∷◌, ◌++◌, length, map, take, drop, get_or, set, refl, sym, ap, arith}
use Rattle.std.proofs.lemmas.List.{map-set, get_or-map}
use Rattle.std.proofs.lemmas.List.Edits.{map_over_more}

length_mapped : {A B : Type 0} (v : A → B) (xs : List A) → length (map v xs) ≡ length xs
length_mapped v [] = refl
length_mapped v (x ∷ xs) = ap suc (length_mapped v xs)

pub length_set : {A : Type 0} (xs : List A) (i : ℕ) (y : A) → length (set xs i y) ≡ length xs
length_set [] i y = refl
length_set (x ∷ xs) zero y = refl
length_set (x ∷ xs) (suc i) y = ap suc (length_set xs i y)

-- the next item, where the list has as many as at first
pub raised_next : {A B : Type 0} (v : A → B) (f : B → B) (xs ys : List A) (i : ℕ) (x y : A) → i < length xs → length ys ≡ length xs → x ≡ get_or ys i x → v y ≡ f (v x) → map v ys ≡ map f (take i (map v xs)) ++ drop i (map v xs) → map v (set ys i y) ≡ map f (take (i + 1) (map v xs)) ++ drop (i + 1) (map v xs)
raised_next {A} {B} v f xs ys i x y below same is made so_far =
    map-set v ys i y
    ∙ ap (λ (z : B). set (map v ys) i z) made
    ∙ map_over_more f (map v xs) (map v ys) i (v x) (omega (arith, below, length_mapped v xs)) so_far (ap v is ∙ sym (get_or-map v ys i x (v x) (omega (arith, below, same))))

raised_all : {B : Type 0} (f : B → B) (ys : List B) (i : ℕ) → length ys ≤ i → map f (take i ys) ++ drop i ys ≡ map f ys
raised_all f [] zero h = refl
raised_all f [] (suc i) h = refl
raised_all f (y ∷ ys) zero h = absurd (omega arith)
raised_all {B} f (y ∷ ys) (suc i) h = ap (λ (zs : List B). f y ∷ zs) (raised_all f ys i (omega arith))

pub raised_end : {A B : Type 0} (v : A → B) (f : B → B) (xs ys : List A) (i : ℕ) → length xs ≤ i → map v ys ≡ map f (take i (map v xs)) ++ drop i (map v xs) → map v ys ≡ map f (map v xs)
raised_end v f xs ys i h so_far = so_far ∙ raised_all f (map v xs) i (omega (arith, h, length_mapped v xs))
