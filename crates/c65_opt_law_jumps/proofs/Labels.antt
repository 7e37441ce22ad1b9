-- Labels that follow at once, and places to which no line leads.
use Rattle.std.proofs.Common.{◌≡◌, ℕ, zero, suc, ◌+◌, ◌<◌, ◌≤◌, ◌==◌, ◌&&◌, ◌||◌, not, ◌⊎◌, inl, inr, Bool, true, false, if◌then◌else◌, List, [], ◌∷◌, ◌++◌, length, Option, Some, None, refl, sym, subst, ap, ◌∙◌, arith}
use Rattle.std.specs.Prelude.{slice_get, take, drop, nat_eq}
use Rattle.std.proofs.lemmas.Bool.{and_parts, eq-eqb, eqb-true, cases_lt}
use Rattle.std.proofs.lemmas.List.{take-append-drop, length-take-le}
use Rattle.c65_code.specs.declared.line.Line.{Line}
use Rattle.c65_code.specs.declared.line.Line.TheVariants.{Label, Do, Call}
use Rattle.c65_code.specs.Moves.{settle, labelled}
use Rattle.c65_code.specs.Segments.{labels_of, is_among, is_distinct}
use Rattle.c65_pass.specs.Labels.{begins_with}
use Rattle.c65_opt_law_follow.proofs.Lists.{settle_back}
use Rattle.c65_opt_law_follow.proofs.Walks.{IsInstruction, settle_up}

-- ---- labels that follow at once

or_either : (a b : Bool) → (a || b) ≡ true → (a ≡ true) ⊎ (b ≡ true)
or_either true b h = inl refl
or_either false b h = inr h

or_second : (a b : Bool) → b ≡ true → (a || b) ≡ true
or_second true b h = refl
or_second false b h = h

-- such a label is among those of the lines
begins_among : (l : ℕ) (lines : List Line) → begins_with l lines ≡ true → is_among (labels_of lines) l ≡ true
begins_among l [] h = absurd cc
begins_among l (Label k ∷ lines) h = pick (l == k) refl h (begins_among l lines)
  where
    pick : (b : Bool) → (l == k) ≡ b → (b || begins_with l lines) ≡ true → (begins_with l lines ≡ true → is_among (labels_of lines) l ≡ true) → is_among (k ∷ labels_of lines) l ≡ true
    pick true e h later = ap (λ (b : Bool). b || is_among (labels_of lines) l) e
    pick false e h later = or_second (nat_eq l k) (is_among (labels_of lines) l) (later h)
begins_among l (Do op mode operand ∷ lines) h = absurd cc
begins_among l (Call callee ∷ lines) h = absurd cc

-- the lines settle at it as at their beginning
begins_settles : (l : ℕ) (lines : List Line) → begins_with l lines ≡ true → settle lines (labelled lines l) ≡ settle lines 0
begins_settles l [] h = absurd cc
begins_settles l (Label k ∷ lines) h = pick (k == l) refl (begins_settles l lines)
  where
    swapped : (k == l) ≡ false → (l == k) ≡ false
    swapped e = other (l == k) refl
      where
        other : (b : Bool) → (l == k) ≡ b → (l == k) ≡ false
        other true f = let same : k ≡ l = sym (eqb-true l k f) in let yes : (k == l) ≡ true = eq-eqb k l same in absurd cc
        other false f = f

    pick : (b : Bool) → (k == l) ≡ b → (begins_with l lines ≡ true → settle lines (labelled lines l) ≡ settle lines 0) → settle (Label k ∷ lines) (if k == l then 0 else suc (labelled lines l)) ≡ suc (settle lines 0)
    pick true e later = ap (λ (b : Bool). settle (Label k ∷ lines) (if b then 0 else suc (labelled lines l))) e
    pick false e later = ap (λ (b : Bool). settle (Label k ∷ lines) (if b then 0 else suc (labelled lines l))) e ∙ ap suc (later (ap (λ (b : Bool). b || begins_with l lines) (sym (swapped e)) ∙ h))
begins_settles l (Do op mode operand ∷ lines) h = absurd cc
begins_settles l (Call callee ∷ lines) h = absurd cc

-- a label of the last lines does not stand among the first ones
later_label : (l : ℕ) (front rest : List Line) → is_distinct (labels_of (front ++ rest)) ≡ true → is_among (labels_of rest) l ≡ true → (is_among (labels_of (front ++ rest)) l ≡ true) × (labelled (front ++ rest) l ≡ length front + labelled rest l)
later_label l [] rest apart among = (among, let e : labelled rest l ≡ 0 + labelled rest l = omega arith in e)
later_label l (Label k ∷ front) rest apart among =
    let both = and_parts (not (is_among (labels_of (front ++ rest)) k)) (is_distinct (labels_of (front ++ rest))) apart in
    let more = later_label l front rest both.1 among in
    (or_second (nat_eq l k) (is_among (labels_of (front ++ rest)) l) more.0, pick (k == l) refl both.0 more)
  where
    pick : (b : Bool) → (k == l) ≡ b → not (is_among (labels_of (front ++ rest)) k) ≡ true → (is_among (labels_of (front ++ rest)) l ≡ true) × (labelled (front ++ rest) l ≡ length front + labelled rest l)
        → (if k == l then 0 else suc (labelled (front ++ rest) l)) ≡ length (Label k ∷ front) + labelled rest l
    pick true e none more =
        let same : k ≡ l = eqb-true k l e in
        let here : is_among (labels_of (front ++ rest)) k ≡ true = subst (λ (n : ℕ). is_among (labels_of (front ++ rest)) n ≡ true) (sym same) more.0 in
        absurd (clash (is_among (labels_of (front ++ rest)) k) here none)
      where
        clash : (b : Bool) → b ≡ true → not b ≡ true → ⊥
        clash true h k = cc
        clash false h k = cc
    pick false e none more = ap (λ (b : Bool). if b then 0 else suc (labelled (front ++ rest) l)) e ∙ (ap suc more.1 ∙ (let f : suc (length front + labelled rest l) ≡ length (Label k ∷ front) + labelled rest l = omega arith in f))
later_label l (Do op mode operand ∷ front) rest apart among =
    let more = later_label l front rest apart among in
    (more.0, ap suc more.1 ∙ (let f : suc (length front + labelled rest l) ≡ length (Do op mode operand ∷ front) + labelled rest l = omega arith in f))
later_label l (Call callee ∷ front) rest apart among =
    let more = later_label l front rest apart among in
    (more.0, ap suc more.1 ∙ (let f : suc (length front + labelled rest l) ≡ length (Call callee ∷ front) + labelled rest l = omega arith in f))

-- a label that follows a place at once: what goes to it comes where the machine stands behind the place
pub at_once : (lines : List Line) (n l : ℕ) → is_distinct (labels_of lines) ≡ true → n ≤ length lines → begins_with l (drop n lines) ≡ true → settle lines (labelled lines l) ≡ settle lines n
at_once lines n l apart le begins =
    let whole : take n lines ++ drop n lines ≡ lines = take-append-drop n lines in
    let long : length (take n lines) ≡ n = length-take-le n lines le in
    let place = later_label l (take n lines) (drop n lines) (subst (λ (x : List Line). is_distinct (labels_of x) ≡ true) (sym whole) apart) (begins_among l (drop n lines) begins) in
    let settled : settle (take n lines ++ drop n lines) (labelled (take n lines ++ drop n lines) l) ≡ settle (take n lines ++ drop n lines) (length (take n lines)) =
    ap (settle (take n lines ++ drop n lines)) place.1 ∙ (settle_back (take n lines) (drop n lines) (labelled (drop n lines) l)
    ∙ (ap (λ (k : ℕ). length (take n lines) + k) (begins_settles l (drop n lines) begins) ∙ (sym (settle_back (take n lines) (drop n lines) 0)
    ∙ ap (settle (take n lines ++ drop n lines)) (let e : length (take n lines) + 0 ≡ length (take n lines) = omega arith in e)))) in
    subst (λ (x : List Line). settle x (labelled x l) ≡ settle x n) whole (settled ∙ ap (settle (take n lines ++ drop n lines)) long)

-- ---- places to which no line leads

same_line : (k l : Line) → Some k ≡ Some l → k ≡ l
same_line k l e = cc

-- the machine does not go past a line that is no label
pub settle_stops : (lines : List Line) (p q : ℕ) (l : Line) → p ≤ q → slice_get lines q ≡ Some l → IsInstruction l → settle lines p ≤ q
settle_stops [] p q l le at i = le
settle_stops (Label k ∷ lines) zero zero l le at i = absurd (subst IsInstruction (sym (same_line (Label k) l at)) i)
settle_stops (Label k ∷ lines) zero (suc q) l le at i = omega (arith, settle_stops lines 0 q l (omega arith) at i)
settle_stops (Label k ∷ lines) (suc p) zero l le at i = absurd (omega (arith, le))
settle_stops (Label k ∷ lines) (suc p) (suc q) l le at i = omega (arith, settle_stops lines p q l (omega (arith, le)) at i)
settle_stops (Do op mode operand ∷ lines) zero q l le at i = omega arith
settle_stops (Do op mode operand ∷ lines) (suc p) zero l le at i = absurd (omega (arith, le))
settle_stops (Do op mode operand ∷ lines) (suc p) (suc q) l le at i = omega (arith, settle_stops lines p q l (omega (arith, le)) at i)
settle_stops (Call callee ∷ lines) zero q l le at i = omega arith
settle_stops (Call callee ∷ lines) (suc p) zero l le at i = absurd (omega (arith, le))
settle_stops (Call callee ∷ lines) (suc p) (suc q) l le at i = omega (arith, settle_stops lines p q l (omega (arith, le)) at i)

-- so behind one it comes from that place alone
pub settle_only : (lines : List Line) (p q : ℕ) (l : Line) → slice_get lines q ≡ Some l → IsInstruction l → settle lines p ≡ suc q → p ≡ suc q
settle_only lines p q l at i e = pick (cases_lt p (suc q))
  where
    pick : (p < suc q) ⊎ (suc q ≤ p) → p ≡ suc q
    pick (inl lt) = absurd (omega (arith, lt, e, settle_stops lines p q l (omega (arith, lt)) at i))
    pick (inr ge) = omega (arith, ge, e, settle_up lines p)

-- no label stands where a line stands that is none
pub label_apart : (lines : List Line) (k q : ℕ) (l : Line) → slice_get lines q ≡ Some l → IsInstruction l → labelled lines k ≡ q → ⊥
label_apart [] k q l at i e = no_line l at
  where
    no_line : (l : Line) → None ≡ Some l → ⊥
    no_line l e = cc
label_apart (Label j ∷ lines) k q l at i e = pick (j == k) q at e (λ r h f. label_apart lines k r l h i f)
  where
    pick : (b : Bool) (q : ℕ) → slice_get (Label j ∷ lines) q ≡ Some l → (if b then 0 else suc (labelled lines k)) ≡ q → ((r : ℕ) → slice_get lines r ≡ Some l → labelled lines k ≡ r → ⊥) → ⊥
    pick true zero at e later = subst IsInstruction (sym (same_line (Label j) l at)) i
    pick true (suc q) at e later = omega (arith, e)
    pick false zero at e later = omega (arith, e)
    pick false (suc q) at e later = later q at (omega (arith, e))
label_apart (Do op mode operand ∷ lines) k zero l at i e = omega (arith, e)
label_apart (Do op mode operand ∷ lines) k (suc q) l at i e = label_apart lines k q l at i (omega (arith, e))
label_apart (Call callee ∷ lines) k zero l at i e = omega (arith, e)
label_apart (Call callee ∷ lines) k (suc q) l at i e = label_apart lines k q l at i (omega (arith, e))
