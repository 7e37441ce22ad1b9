-- The marks of a function's objects.
use Rattle.std.proofs.Common.{◌≡◌, ℕ, zero, suc, ◌+◌, ◌-◌, ◌<◌, ◌≤◌, ◌==◌, ◌||◌, Bool, true, false, List, [], ◌∷◌, length, refl, sym, ◌∙◌, ap, slice_get, slice_set, Some, arith}
use Rattle.std.specs.Prelude.{map, min, max, replicate}
use Rattle.std.proofs.Math.Nat.{min-le_left, min-le_right}
use Rattle.std.proofs.lemmas.Bool.{eqb-true, eqb-false, ne_eqb}
use Rattle.std.proofs.lemmas.List.{length-replicate}
use Rattle.c65_genframe.specs.declared.mark.Mark.{Mark}
use Rattle.c65_genframe.specs.declared.mark.Mark.TheVariants.{Other, Local, Parameter}
use Rattle.c65_genframe.specs.Marks.{least, greatest, marked, lowest, no_marks, all_marks}
use Rattle.c65_gen_law_size.specs.Own.{is_among}

-- ---- the least and the greatest number

-- these numbers lie from low to high
abbrev pub Spans : ℕ → ℕ → List ℕ → Type 0
Spans low high [] = Unit {0}
Spans low high (i ∷ is) = (low ≤ i) × (i ≤ high) × Spans low high is

wider : (low high low2 high2 : ℕ) (is : List ℕ) → low2 ≤ low → high ≤ high2 → Spans low high is → Spans low2 high2 is
wider low high low2 high2 [] le ge h = tt
wider low high low2 high2 (i ∷ is) le ge h = (omega (arith, le, h.0), omega (arith, ge, h.1), wider low high low2 high2 is le ge h.2)

least_le : (first : ℕ) (is : List ℕ) → least first is ≤ first
least_le first [] = omega arith
least_le first (i ∷ is) = omega (arith, least_le (min first i) is, min-le_left first i)

greatest_ge : (first : ℕ) (is : List ℕ) → first ≤ greatest first is
greatest_ge first [] = omega arith
greatest_ge first (i ∷ is) = omega (arith, greatest_ge (max first i) is)

spanned : (low high : ℕ) (is : List ℕ) → Spans (least low is) (greatest high is) is
spanned low high [] = tt
spanned low high (i ∷ is) = (omega (arith, least_le (min low i) is, min-le_right low i), omega (arith, greatest_ge (max high i) is), spanned (min low i) (max high i) is)

abbrev pub highest : List ℕ → List ℕ → ℕ
highest locals params = greatest (greatest 0 locals) params

pub params_span : (locals params : List ℕ) → Spans (lowest locals params) (highest locals params) params
params_span locals params = spanned (least 4294967295 locals) (greatest 0 locals) params

pub locals_span : (locals params : List ℕ) → Spans (lowest locals params) (highest locals params) locals
locals_span locals params =
    wider (least 4294967295 locals) (greatest 0 locals) (lowest locals params) (highest locals params) locals (least_le (least 4294967295 locals) params) (greatest_ge (greatest 0 locals) params) (spanned 4294967295 0 locals)

pub none_below : (low high i : ℕ) (is : List ℕ) → Spans low high is → i < low → is_among is i ≡ false
none_below low high i [] h lt = refl
none_below low high i (j ∷ is) h lt = ap (λ b. b || is_among is i) (ne_eqb j i (λ e. omega (arith, e, h.0, lt))) ∙ none_below low high i is h.2 lt

-- ---- which places of the list have a mark

abbrev pub has_mark : Mark → Bool
has_mark Other = false
has_mark Local = true
has_mark Parameter = true

abbrev pub bit : List Bool → ℕ → Bool
bit [] k = false
bit (b ∷ bs) zero = b
bit (b ∷ bs) (suc k) = bit bs k

abbrev pub bit_of : List Mark → ℕ → Bool
bit_of ms k = bit (map has_mark ms) k

length_set : (ms : List Mark) (k : ℕ) (m : Mark) → length (slice_set ms k m) ≡ length ms
length_set [] k m = refl
length_set (n ∷ ms) zero m = refl
length_set (n ∷ ms) (suc k) m = ap suc (length_set ms k m)

bit_here : (ms : List Mark) (k : ℕ) (m : Mark) → k < length ms → bit_of (slice_set ms k m) k ≡ has_mark m
bit_here [] k m h = absurd (omega (arith, h))
bit_here (n ∷ ms) zero m h = refl
bit_here (n ∷ ms) (suc k) m h = bit_here ms k m (omega (arith, h))

bit_elsewhere : (ms : List Mark) (j k : ℕ) (m : Mark) → (j ≡ k → ⊥) → bit_of (slice_set ms j m) k ≡ bit_of ms k
bit_elsewhere [] j k m h = refl
bit_elsewhere (n ∷ ms) zero zero m h = absurd (h refl)
bit_elsewhere (n ∷ ms) zero (suc k) m h = refl
bit_elsewhere (n ∷ ms) (suc j) zero m h = refl
bit_elsewhere (n ∷ ms) (suc j) (suc k) m h = bit_elsewhere ms j k m (λ e. h (ap suc e))

or_swap : (a b c : Bool) → (a || (b || c)) ≡ ((b || a) || c)
or_swap true true c = refl
or_swap true false c = refl
or_swap false true c = refl
or_swap false false c = refl

one_bit : (low j i : ℕ) (m : Mark) (ms : List Mark) (same : Bool) → (j == i) ≡ same → has_mark m ≡ true → low ≤ i → low ≤ j → j - low < length ms → bit_of (slice_set ms (j - low) m) (i - low) ≡ (same || bit_of ms (i - low))
one_bit low j i m ms true e is le le2 lt =
    let here : j ≡ i = eqb-true j i e in
    ap (λ n. bit_of (slice_set ms (j - low) m) (n - low)) (sym here) ∙ (bit_here ms (j - low) m lt ∙ is)
one_bit low j i m ms false e is le le2 lt = bit_elsewhere ms (j - low) (i - low) m (λ same. eqb-false j i e (omega (arith, same, le, le2)))

marked_bit : (low high : ℕ) (m : Mark) (ms : List Mark) (is : List ℕ) (i : ℕ) → has_mark m ≡ true → low ≤ i → Spans low high is → high + 1 - low ≤ length ms → bit_of (marked low m ms is) (i - low) ≡ (is_among is i || bit_of ms (i - low))
marked_bit low high m ms [] i is le spans room = refl
marked_bit low high m ms (j ∷ js) i is le spans room =
    let ns : List Mark = slice_set ms (j - low) m in
    let rest : bit_of (marked low m ns js) (i - low) ≡ (is_among js i || bit_of ns (i - low)) = marked_bit low high m ns js i is le spans.2 (omega (arith, room, length_set ms (j - low) m)) in
    let one : bit_of ns (i - low) ≡ ((j == i) || bit_of ms (i - low)) = one_bit low j i m ms (j == i) refl is le spans.0 (omega (arith, room, spans.0, spans.1)) in
    rest ∙ (ap (λ b. is_among js i || b) one ∙ or_swap (is_among js i) (j == i) (bit_of ms (i - low)))

pub length_marked : (low : ℕ) (m : Mark) (ms : List Mark) (is : List ℕ) → length (marked low m ms is) ≡ length ms
length_marked low m ms [] = refl
length_marked low m ms (i ∷ is) = length_marked low m (slice_set ms (i - low) m) is ∙ length_set ms (i - low) m

no_bit : (n k : ℕ) → bit_of (replicate n Other) k ≡ false
no_bit zero k = refl
no_bit (suc n) zero = refl
no_bit (suc n) (suc k) = no_bit n k

or_nothing : (a b : Bool) → (a || (b || false)) ≡ (a || b)
or_nothing true b = refl
or_nothing false true = refl
or_nothing false false = refl

pub own_bit : (locals params : List ℕ) (i : ℕ) → lowest locals params ≤ i → bit_of (all_marks locals params) (i - lowest locals params) ≡ (is_among params i || is_among locals i)
own_bit locals params i le =
    let low : ℕ = lowest locals params in
    let high : ℕ = highest locals params in
    let ms : List Mark = no_marks locals params in
    let ns : List Mark = marked low Local ms locals in
    let room : length ms ≡ high + 1 - low = length-replicate (high + 1 - low) Other in
    let second : bit_of (marked low Parameter ns params) (i - low) ≡ (is_among params i || bit_of ns (i - low)) = marked_bit low high Parameter ns params i refl le (params_span locals params) (omega (arith, room, length_marked low Local ms locals)) in
    let first : bit_of ns (i - low) ≡ (is_among locals i || bit_of ms (i - low)) = marked_bit low high Local ms locals i refl le (locals_span locals params) (omega (arith, room)) in
    let none : bit_of ms (i - low) ≡ false = no_bit (high + 1 - low) (i - low) in
    second ∙ (ap (λ b. is_among params i || b) (first ∙ ap (λ b. is_among locals i || b) none) ∙ or_nothing (is_among params i) (is_among locals i))

-- ---- which mark a place has

mark_set : (ms : List Mark) (k : ℕ) (m : Mark) → k < length ms → slice_get (slice_set ms k m) k ≡ Some m
mark_set [] k m h = absurd (omega (arith, h))
mark_set (n ∷ ms) zero m h = refl
mark_set (n ∷ ms) (suc k) m h = mark_set ms k m (omega (arith, h))

mark_elsewhere : (ms : List Mark) (j k : ℕ) (m : Mark) → (j ≡ k → ⊥) → slice_get (slice_set ms j m) k ≡ slice_get ms k
mark_elsewhere [] j k m h = refl
mark_elsewhere (n ∷ ms) zero zero m h = absurd (h refl)
mark_elsewhere (n ∷ ms) zero (suc k) m h = refl
mark_elsewhere (n ∷ ms) (suc j) zero m h = refl
mark_elsewhere (n ∷ ms) (suc j) (suc k) m h = mark_elsewhere ms j k m (λ e. h (ap suc e))

-- a number that is not among these keeps its mark
pub mark_kept : (low high : ℕ) (m : Mark) (ms : List Mark) (is : List ℕ) (i : ℕ) → low ≤ i → Spans low high is → is_among is i ≡ false → slice_get (marked low m ms is) (i - low) ≡ slice_get ms (i - low)
mark_kept low high m ms [] i le spans h = refl
mark_kept low high m ms (j ∷ js) i le spans h = go (j == i) refl h (mark_kept low high m (slice_set ms (j - low) m) js i le spans.2)
  where
    go : (b : Bool) → (j == i) ≡ b → (b || is_among js i) ≡ false → (is_among js i ≡ false → slice_get (marked low m (slice_set ms (j - low) m) js) (i - low) ≡ slice_get (slice_set ms (j - low) m) (i - low)) → slice_get (marked low m (slice_set ms (j - low) m) js) (i - low) ≡ slice_get ms (i - low)
    go true e f rest = absurd cc
    go false e f rest = rest f ∙ mark_elsewhere ms (j - low) (i - low) m (λ same. eqb-false j i e (omega (arith, same, le, spans.0)))

-- one that has the mark has it still
mark_stays : (low high : ℕ) (m : Mark) (ms : List Mark) (is : List ℕ) (i : ℕ) → low ≤ i → i - low < length ms → Spans low high is → slice_get ms (i - low) ≡ Some m → slice_get (marked low m ms is) (i - low) ≡ Some m
mark_stays low high m ms [] i le room spans h = h
mark_stays low high m ms (j ∷ js) i le room spans h =
    mark_stays low high m (slice_set ms (j - low) m) js i le (omega (arith, room, length_set ms (j - low) m)) spans.2 (go (j == i) refl)
  where
    go : (b : Bool) → (j == i) ≡ b → slice_get (slice_set ms (j - low) m) (i - low) ≡ Some m
    go true e = ap (λ n. slice_get (slice_set ms (n - low) m) (i - low)) (eqb-true j i e) ∙ mark_set ms (i - low) m room
    go false e = mark_elsewhere ms (j - low) (i - low) m (λ same. eqb-false j i e (omega (arith, same, le, spans.0))) ∙ h

-- each of these gets the mark
pub mark_here : (low high : ℕ) (m : Mark) (ms : List Mark) (is : List ℕ) (i : ℕ) → Spans low high is → high + 1 - low ≤ length ms → is_among is i ≡ true → (low ≤ i) × (slice_get (marked low m ms is) (i - low) ≡ Some m)
mark_here low high m ms [] i spans room h = absurd cc
mark_here low high m ms (j ∷ js) i spans room h = go (j == i) refl h (mark_here low high m (slice_set ms (j - low) m) js i spans.2 (omega (arith, room, length_set ms (j - low) m)))
  where
    ns : List Mark
    ns = slice_set ms (j - low) m

    go : (b : Bool) → (j == i) ≡ b → (b || is_among js i) ≡ true → (is_among js i ≡ true → (low ≤ i) × (slice_get (marked low m ns js) (i - low) ≡ Some m)) → (low ≤ i) × (slice_get (marked low m ns js) (i - low) ≡ Some m)
    go true e f rest =
        let same : j ≡ i = eqb-true j i e in
        let le : low ≤ i = omega (arith, same, spans.0) in
        let inside : i - low < length ms = omega (arith, room, same, spans.0, spans.1) in
        let put : slice_get ns (i - low) ≡ Some m = ap (λ n. slice_get (slice_set ms (n - low) m) (i - low)) same ∙ mark_set ms (i - low) m inside in
        (le, mark_stays low high m ns js i le (omega (arith, inside, length_set ms (j - low) m)) spans.2 put)
    go false e f rest = rest f
