-- Lists whose items have numbers that rise, or that are those of their places.
use Rattle.std.proofs.Common.{◌≡◌, ℕ, zero, suc, ◌+◌, ◌<◌, ◌≤◌, Option, Some, List, [], ◌∷◌, ◌++◌, length, slice_get, refl, sym, ap, subst, ◌∙◌, arith}
use Rattle.std.specs.Prelude.{All, map}
use Rattle.std.proofs.lemmas.Option.{slice_get_within, get_or_from_slice_get}

pub all_at : {A : Type 0} (P : A → Type 0) (xs : List A) (i : ℕ) (x : A) → All P xs → slice_get xs i ≡ Some x → P x
all_at P xs i x all h = subst P (get_or_from_slice_get xs i x x h) (all i x (slice_get_within xs i x h))

pub some_same : {A : Type 0} (x y : A) → ◌≡◌ {A = Option A} (Some x) (Some y) → x ≡ y
some_same x y h = cc

-- ---- each item

abbrev pub Every : {A : Type 0} → (A → Type 0) → List A → Type 0
Every P [] = Unit {0}
Every P (x ∷ xs) = P x × Every P xs

pub every_append : {A : Type 0} (P : A → Type 0) (xs ys : List A) → Every P xs → Every P ys → Every P (xs ++ ys)
every_append P [] ys p q = q
every_append P (x ∷ xs) ys p q = (p.0, every_append P xs ys p.1 q)

pub every_at : {A : Type 0} (P : A → Type 0) (xs : List A) (i : ℕ) (x : A) → Every P xs → slice_get xs i ≡ Some x → P x
every_at P [] i x p h = absurd cc
every_at P (y ∷ xs) zero x p h = subst P (some_same y x h) p.0
every_at P (y ∷ xs) (suc i) x p h = every_at P xs i x p.1 h

-- ---- numbers that rise

abbrev pub Rises : {A : Type 0} → (A → ℕ) → ℕ → ℕ → List A → Type 0
Rises key lo hi [] = lo ≤ hi
Rises key lo hi (x ∷ xs) = (lo ≤ key x) × Rises key (suc (key x)) hi xs

rises_far : {A : Type 0} (key : A → ℕ) (lo hi : ℕ) (xs : List A) → Rises key lo hi xs → lo ≤ hi
rises_far key lo hi [] h = h
rises_far key lo hi (x ∷ xs) h = omega (arith, h.0, rises_far key (suc (key x)) hi xs h.1)

pub rises_wider : {A : Type 0} (key : A → ℕ) (lo hi to : ℕ) (xs : List A) → hi ≤ to → Rises key lo hi xs → Rises key lo to xs
rises_wider key lo hi to [] le h = omega (arith, le, h)
rises_wider key lo hi to (x ∷ xs) le h = (h.0, rises_wider key (suc (key x)) hi to xs le h.1)

pub rises_more : {A : Type 0} (key : A → ℕ) (lo hi to : ℕ) (xs : List A) (y : A) → Rises key lo hi xs → hi ≤ key y → key y < to → Rises key lo to (xs ++ y ∷ [])
rises_more key lo hi to [] y h low high = (omega (arith, h, low), omega (arith, high))
rises_more key lo hi to (x ∷ xs) y h low high = (h.0, rises_more key (suc (key x)) hi to xs y h.1 low high)

pub rises_at : {A : Type 0} (key : A → ℕ) (lo hi i : ℕ) (xs : List A) (x : A) → Rises key lo hi xs → slice_get xs i ≡ Some x → (lo ≤ key x) × (key x < hi)
rises_at key lo hi i [] x h is = absurd cc
rises_at key lo hi zero (y ∷ xs) x h is =
    let same : key y ≡ key x = ap key (some_same y x is) in
    (omega (arith, same, h.0), omega (arith, same, rises_far key (suc (key y)) hi xs h.1))
rises_at key lo hi (suc i) (y ∷ xs) x h is =
    let rest : (suc (key y) ≤ key x) × (key x < hi) = rises_at key (suc (key y)) hi i xs x h.1 is in
    (omega (arith, rest.0, h.0), rest.1)

pub rises_once : {A : Type 0} (key : A → ℕ) (lo hi i j : ℕ) (xs : List A) (x y : A) → Rises key lo hi xs → slice_get xs i ≡ Some x → slice_get xs j ≡ Some y → key x ≡ key y → i ≡ j
rises_once key lo hi i j [] x y h p q e = absurd cc
rises_once key lo hi zero zero (z ∷ xs) x y h p q e = refl
rises_once key lo hi zero (suc j) (z ∷ xs) x y h p q e = absurd (omega (arith, e, ap key (some_same z x p), (rises_at key (suc (key z)) hi j xs y h.1 q).0))
rises_once key lo hi (suc i) zero (z ∷ xs) x y h p q e = absurd (omega (arith, e, ap key (some_same z y q), (rises_at key (suc (key z)) hi i xs x h.1 p).0))
rises_once key lo hi (suc i) (suc j) (z ∷ xs) x y h p q e = ap (λ k. suc k) (rises_once key (suc (key z)) hi i j xs x y h.1 p q e)

-- ---- numbers of places

abbrev pub EachAt : {A : Type 0} → (ℕ → A → Type 0) → ℕ → List A → Type 0
EachAt P lo [] = Unit {0}
EachAt P lo (x ∷ xs) = P lo x × EachAt P (suc lo) xs

pub each_more : {A : Type 0} (P : ℕ → A → Type 0) (lo k : ℕ) (xs : List A) (y : A) → EachAt P lo xs → lo + length xs ≡ k → P k y → EachAt P lo (xs ++ y ∷ [])
each_more P lo k [] y h e p = (subst (λ (n : ℕ). P n y) (omega (arith, e)) p, tt)
each_more P lo k (x ∷ xs) y h e p = (h.0, each_more P (suc lo) k xs y h.1 (omega (arith, e)) p)

pub each_at : {A : Type 0} (P : ℕ → A → Type 0) (lo i : ℕ) (xs : List A) (x : A) → EachAt P lo xs → slice_get xs i ≡ Some x → P (lo + i) x
each_at P lo i [] x h is = absurd cc
each_at P lo zero (y ∷ xs) x h is = subst (λ (n : ℕ). P n x) (omega arith) (subst (P lo) (some_same y x is) h.0)
each_at P lo (suc i) (y ∷ xs) x h is = subst (λ (n : ℕ). P n x) (omega arith) (each_at P (suc lo) i xs x h.1 is)

pub length_more : {A : Type 0} (xs : List A) (y : A) → length (xs ++ y ∷ []) ≡ length xs + 1
length_more [] y = omega arith
length_more (x ∷ xs) y = omega (arith, length_more xs y)

-- the items of a list from a place on
abbrev pub IsRest : {A : Type 0} → List A → ℕ → List A → Type 0
IsRest xs i ys = (j : ℕ) → slice_get ys j ≡ slice_get xs (i + j)

pub rest_first : {A : Type 0} (xs : List A) (i : ℕ) (y : A) (ys : List A) → IsRest xs i (y ∷ ys) → slice_get xs i ≡ Some y
rest_first xs i y ys rest =
    let e : i + 0 ≡ i = omega arith in
    sym (ap (slice_get xs) e) ∙ sym (rest 0)

pub rest_next : {A : Type 0} (xs : List A) (i : ℕ) (y : A) (ys : List A) → IsRest xs i (y ∷ ys) → IsRest xs (suc i) ys
rest_next xs i y ys rest j =
    let e : i + suc j ≡ suc i + j = omega arith in
    rest (suc j) ∙ ap (slice_get xs) e

pub rest_whole : {A : Type 0} (xs : List A) → IsRest xs 0 xs
rest_whole xs j = let e : j ≡ 0 + j = omega arith in ap (slice_get xs) e

-- ---- each item, by one statement or the other

pub every_all : {A : Type 0} (P : A → Type 0) (xs : List A) → All P xs → Every P xs
every_all P [] all = tt
every_all P (x ∷ xs) all = (all 0 x (omega arith), every_all P xs (λ k d h. all (suc k) d (omega (arith, h))))

pub every_map : {A B : Type 0} (P : B → Type 0) (f : A → B) (xs : List A) → Every P (map f xs) → Every (λ x. P (f x)) xs
every_map P f [] h = tt
every_map P f (x ∷ xs) h = (h.0, every_map P f xs h.1)
