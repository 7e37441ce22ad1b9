-- Symbols whose numbers are met once.
use Rattle.std.proofs.Common.{◌≡◌, ℕ, zero, suc, ◌+◌, ◌<◌, ◌⊎◌, inl, inr, true, false, not, nat_eq, List, [], ◌∷◌, ◌++◌, map, Some, length, slice_get, slice_set, refl, ap, sym, ◌∙◌, arith}
use Rattle.std.proofs.lemmas.Bool.{cases_eq, ne_eqb, or_from, and_from, not_from_false}
use Rattle.c65_code.specs.declared.code.Code.{Code}
use Rattle.c65_code.specs.Segments.{is_among, is_distinct}
use Rattle.c65_code.specs.Writable.{IsWritable}
use Rattle.c65_link_law.specs.Placed.{function_number, datum_number, numbers_of}
use Rattle.c65_link_law_spots.proofs.Sums.{none_there, same_there}

abbrev pub Once : List ℕ → Type 0
Once xs = (i j v : ℕ) → slice_get xs i ≡ Some v → slice_get xs j ≡ Some v → i ≡ j

not_among : (xs : List ℕ) (n : ℕ) → ((i : ℕ) → slice_get xs i ≡ Some n → ⊥) → is_among xs n ≡ false
not_among [] n h = refl
not_among (x ∷ xs) n h = or_from (nat_eq n x) (is_among xs n) (ne_eqb n x (λ e. h 0 (ap Some (sym e)))) (not_among xs n (λ i. h (suc i)))

no_zero : (i : ℕ) → 0 ≡ suc i → ⊥
no_zero i e = omega (arith, e)

less : (i j : ℕ) → suc i ≡ suc j → i ≡ j
less i j e = omega (arith, e)

pub distinct : (xs : List ℕ) → Once xs → is_distinct xs ≡ true
distinct [] h = refl
distinct (x ∷ xs) h =
    let none : is_among xs x ≡ false = not_among xs x (λ i e. no_zero i (h 0 (suc i) x refl e)) in
    and_from (not (is_among xs x)) (is_distinct xs) (not_from_false (is_among xs x) none) (distinct xs (λ i j v a b. less i j (h (suc i) (suc j) v a b)))

-- an element of a list made by a function
pub record Mapped {A : Type 0} (f : A → ℕ) (xs : List A) (i v : ℕ) : Type 0 where
  pub from : A
  pub there : slice_get xs i ≡ Some from
  pub is : f from ≡ v

pub mapped : {A : Type 0} (f : A → ℕ) (xs : List A) (i v : ℕ) → slice_get (map f xs) i ≡ Some v → Mapped f xs i v
mapped f [] i v h = none_there v h
mapped f (x ∷ xs) zero v h = record { from = x; there = refl; is = same_there (f x) v h }
mapped f (x ∷ xs) (suc i) v h = let m : Mapped f xs i v = mapped f xs i v h in record { from = m.from; there = m.there; is = m.is }

pub map_there : {A : Type 0} (f : A → ℕ) (xs : List A) (i : ℕ) (x : A) → slice_get xs i ≡ Some x → slice_get (map f xs) i ≡ Some (f x)
map_there f [] i x h = none_there x h
map_there f (y ∷ xs) zero x h = ap (λ z. Some (f z)) (same_there y x h)
map_there f (y ∷ xs) (suc i) x h = map_there f xs i x h

-- an element of the one list or of the other
pub data Split (xs ys : List ℕ) (i v : ℕ) : Type 0 where
  first : slice_get xs i ≡ Some v → i < length xs → Split xs ys i v
  second : (j : ℕ) → slice_get ys j ≡ Some v → i ≡ length xs + j → Split xs ys i v

split : (xs ys : List ℕ) (i v : ℕ) → slice_get (xs ++ ys) i ≡ Some v → Split xs ys i v
split [] ys i v h = second i h (omega arith)
split (x ∷ xs) ys zero v h = first h (omega arith)
split (x ∷ xs) ys (suc i) v h = on (split xs ys i v h)
  where
    on : Split xs ys i v → Split (x ∷ xs) ys (suc i) v
    on (first e l) = first e (omega (arith, l))
    on (second j e at) = second j e (omega (arith, at))

pub once_both : (xs ys : List ℕ) → Once xs → Once ys → ((i j v : ℕ) → slice_get xs i ≡ Some v → slice_get ys j ≡ Some v → ⊥) → Once (xs ++ ys)
once_both xs ys f g apart i j v a b = by (split xs ys i v a) (split xs ys j v b)
  where
    by : Split xs ys i v → Split xs ys j v → i ≡ j
    by (first e l) (first e2 l2) = f i j v e e2
    by (first e l) (second k e2 at) = absurd (apart i k v e e2)
    by (second k e at) (first e2 l2) = absurd (apart j k v e2 e)
    by (second k e at) (second m e2 at2) = let same = g k m v e e2 in omega (arith, at, at2, same)

-- no symbol of a writable code is defined twice
pub numbers_once : (code : Code) → IsWritable code → is_distinct (numbers_of code) ≡ true
numbers_once code w = distinct (numbers_of code) (once_both (map function_number code.functions) (map datum_number code.datums) functions datums apart)
  where
    functions : Once (map function_number code.functions)
    functions i j v a b =
        let f = mapped function_number code.functions i v a in
        let g = mapped function_number code.functions j v b in
        w.own_function i j f.from g.from f.there g.there (f.is ∙ sym g.is)

    datums : Once (map datum_number code.datums)
    datums i j v a b =
        let d = mapped datum_number code.datums i v a in
        let e = mapped datum_number code.datums j v b in
        w.own_datum i j d.from e.from d.there e.there (d.is ∙ sym e.is)

    apart : (i j v : ℕ) → slice_get (map function_number code.functions) i ≡ Some v → slice_get (map datum_number code.datums) j ≡ Some v → ⊥
    apart i j v a b =
        let f = mapped function_number code.functions i v a in
        let d = mapped datum_number code.datums j v b in
        w.apart i j f.from d.from f.there d.there (f.is ∙ sym d.is)

-- whether a function or a datum has a number
pub data Has {A : Type 0} (f : A → ℕ) (xs : List A) (n : ℕ) : Type 0 where
  found : (k : ℕ) (x : A) → slice_get xs k ≡ Some x → f x ≡ n → Has f xs n
  nowhere : ((k : ℕ) (x : A) → slice_get xs k ≡ Some x → f x ≡ n → ⊥) → Has f xs n

pub has : {A : Type 0} (f : A → ℕ) (xs : List A) (n : ℕ) → Has f xs n
has f [] n = nowhere (λ k x h e. none_there x h)
has {A} f (y ∷ xs) n = by (cases_eq (f y) n) (has f xs n)
  where
    gap : (f y ≡ n → ⊥) → ((k : ℕ) (x : A) → slice_get xs k ≡ Some x → f x ≡ n → ⊥) → (k : ℕ) (x : A) → slice_get (y ∷ xs) k ≡ Some x → f x ≡ n → ⊥
    gap other none zero x h e = other (ap f (same_there y x h) ∙ e)
    gap other none (suc k) x h e = none k x h e

    by : (f y ≡ n) ⊎ (f y ≡ n → ⊥) → Has f xs n → Has f (y ∷ xs) n
    by (inl e) h = found 0 y refl e
    by (inr other) (found k x h e) = found (suc k) x h e
    by (inr other) (nowhere none) = nowhere (gap other none)

-- what stands at a place where another one is set
pub get_other : {A : Type 0} (xs : List A) (i j : ℕ) (x : A) → (i ≡ j → ⊥) → slice_get (slice_set xs j x) i ≡ slice_get xs i
get_other [] i j x h = refl
get_other (y ∷ xs) zero zero x h = absurd (h refl)
get_other (y ∷ xs) zero (suc j) x h = refl
get_other (y ∷ xs) (suc i) zero x h = refl
get_other (y ∷ xs) (suc i) (suc j) x h = get_other xs i j x (λ e. h (ap suc e))
