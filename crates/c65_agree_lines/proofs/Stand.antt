-- Where lines stand in a function.
use Rattle.std.proofs.Common.{◌≡◌, ℕ, zero, suc, ◌+◌, List, [], ◌∷◌, ◌++◌, Some, Bool, true, false, refl, sym, ap, ◌∙◌, subst, arith}
use Rattle.std.specs.Prelude.{length, slice_get, not, ◌&&◌, ◌||◌, ◌==◌, if◌then◌else◌}
use Rattle.std.proofs.lemmas.Bool.Decides.{nat_tests}
use Rattle.c65_code.specs.declared.line.Line.{Line}
use Rattle.c65_code.specs.declared.line.Line.TheVariants.{Label, Do, Call}
use Rattle.c65_code.specs.Moves.{labelled}
use Rattle.c65_code.specs.Segments.{labels_of, is_among, is_distinct}
use Rattle.c65_agree_state.specs.World.{HasAt, IsPlaced}
use Rattle.c65_agree_lines.specs.Laws.{PartsStand, AllStand, SegmentsArePlaced}

pub parts_stand : PartsStand
parts_stand code [] second p h = let here : p ≡ p + length {A = Line} [] = omega arith in (tt, subst (λ q. HasAt code q second) here h)
parts_stand code (x ∷ xs) second p h =
    let deep = parts_stand code xs second (suc p) h.1 in
    let on : suc p + length xs ≡ p + length (x ∷ xs) = omega arith in
    ((h.0, deep.0), subst (λ q. HasAt code q second) on deep.1)

-- ---- all lines

append_again : (xs ys zs : List Line) → (xs ++ ys) ++ zs ≡ xs ++ (ys ++ zs)
append_again [] ys zs = refl
append_again (x ∷ xs) ys zs = ap (λ l. x ∷ l) (append_again xs ys zs)

first_behind : (before rest : List Line) (x : Line) → slice_get (before ++ x ∷ rest) (length before) ≡ Some x
first_behind [] rest x = refl
first_behind (y ∷ before) rest x = let on : length (y ∷ before) ≡ suc (length before) = omega arith in ap (slice_get (y ∷ before ++ x ∷ rest)) on ∙ first_behind before rest x

one_longer : (before : List Line) (x : Line) → length (before ++ x ∷ []) ≡ suc (length before)
one_longer [] x = refl
one_longer (y ∷ before) x = let h = one_longer before x in omega (arith, h)

stand_behind : (before rest : List Line) → HasAt (before ++ rest) (length before) rest
stand_behind before [] = tt
stand_behind before (x ∷ rest) =
    let deep = stand_behind (before ++ x ∷ []) rest in
    (first_behind before rest x, subst (λ q. HasAt (before ++ x ∷ rest) q rest) (one_longer before x) (subst (λ code. HasAt code (length (before ++ x ∷ [])) rest) (append_again before (x ∷ []) rest) deep))

pub all_stand : AllStand
all_stand code = stand_behind [] code

-- ---- labels

-- a label that stands in lines is among theirs
is_there : (lines : List Line) (q l : ℕ) → slice_get lines q ≡ Some (Label l) → is_among (labels_of lines) l ≡ true
is_there [] q l e = cc
is_there (Label k ∷ lines) zero l e =
    let same : k ≡ l = cc in
    either_first (l == k) (is_among (labels_of lines) l) (grind (arith, nat_tests))
  where
    either_first : (x y : Bool) → x ≡ true → x || y ≡ true
    either_first true y h = refl
    either_first false y h = cc
is_there (Do op mode operand ∷ lines) zero l e = cc
is_there (Call callee ∷ lines) zero l e = cc
is_there (Label k ∷ lines) (suc q) l e = either_second (l == k) (is_among (labels_of lines) l) (is_there lines q l e)
  where
    either_second : (x y : Bool) → y ≡ true → x || y ≡ true
    either_second true y h = refl
    either_second false y h = h
is_there (Do op mode operand ∷ lines) (suc q) l e = is_there lines q l e
is_there (Call callee ∷ lines) (suc q) l e = is_there lines q l e

-- the labels are distinct
record AreTwo (k : ℕ) (labels : List ℕ) : Type 0 where
  first : is_among labels k ≡ false
  rest : is_distinct labels ≡ true

two : (k : ℕ) (labels : List ℕ) → is_distinct (k ∷ labels) ≡ true → AreTwo k labels
two k labels e = go (is_among labels k) refl e
  where
    go : (x : Bool) → is_among labels k ≡ x → not x && is_distinct labels ≡ true → AreTwo k labels
    go true h f = cc
    go false h f = record { first = h; rest = f }

placed_in : (code : List Line) → is_distinct (labels_of code) ≡ true → IsPlaced code
placed_in [] d q l e = cc
placed_in (Label k ∷ lines) d zero l e =
    let same : k ≡ l = cc in
    let test : (k == l) ≡ true = grind (arith, nat_tests) in
    ap (λ (x : Bool). if x then 0 else suc (labelled lines l)) test
placed_in (Do op mode operand ∷ lines) d zero l e = cc
placed_in (Call callee ∷ lines) d zero l e = cc
placed_in (Label k ∷ lines) d (suc q) l e =
    let h = two k (labels_of lines) d in
    let there = is_there lines q l e in
    ap (λ (x : Bool). if x then 0 else suc (labelled lines l)) (other (k == l) refl h.first there) ∙ ap suc (placed_in lines h.rest q l e)
  where
    other : (x : Bool) → (k == l) ≡ x → is_among (labels_of lines) k ≡ false → is_among (labels_of lines) l ≡ true → (k == l) ≡ false
    other false t none there = t
    other true t none there =
        let same : k ≡ l = grind (arith, nat_tests) in
        let clash : false ≡ true = sym none ∙ ap (is_among (labels_of lines)) same ∙ there in
        cc
placed_in (Do op mode operand ∷ lines) d (suc q) l e = ap suc (placed_in lines d q l e)
placed_in (Call callee ∷ lines) d (suc q) l e = ap suc (placed_in lines d q l e)

pub segments_are_placed : SegmentsArePlaced
segments_are_placed code s = placed_in code s.labels
