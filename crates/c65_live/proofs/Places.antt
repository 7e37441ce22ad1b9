-- A label of a segment stands at one place, and is found there.
use Rattle.std.proofs.Common.{◌≡◌, ℕ, zero, suc, ◌||◌, not, Bool, true, false, List, [], ◌∷◌, ◌++◌, Some, cond, refl, sym, ◌∙◌, ap, subst, nat_eq, eqb-true, eq-eqb, slice_get}
use Rattle.std.specs.Option.{option_map}
use Rattle.std.specs.List.{list_all}
use Rattle.std.proofs.lemmas.Bool.{and_parts}
use Rattle.std.proofs.lemmas.Option.{none-some, same_Some, slice_get-map}
use Rattle.c65_code.specs.declared.line.Line.{Line}
use Rattle.c65_code.specs.declared.line.Line.TheVariants.{Label, Do, Call}
use Rattle.c65_code.specs.Segments.{labels_of, target_of, targets_of, is_among, is_distinct}
use Rattle.c65_code.specs.Moves.{labelled}
use Rattle.c65_live.specs.Flows.{labelled_at}
use Rattle.c65_live.specs.Regions.{place_of, places_of}

or_true : (a b : Bool) → b ≡ true → (a || b) ≡ true
or_true true b h = refl
or_true false b h = h

true_not : (b : Bool) → b ≡ true → not b ≡ true → ⊥
true_not true h e = let f : false ≡ true = e in cc
true_not false h e = let f : false ≡ true = h in cc

label_among : (lines : List Line) (r l : ℕ) → slice_get lines r ≡ Some (Label l) → is_among (labels_of lines) l ≡ true
label_among [] r l e = absurd (none-some (Label l) e)
label_among (x ∷ xs) zero l e =
    subst (λ y. is_among (labels_of (y ∷ xs)) l ≡ true) (sym (same_Some x (Label l) e)) (ap (λ b. b || is_among (labels_of xs) l) (eq-eqb l l refl))
label_among (Label k ∷ xs) (suc r) l e = or_true (nat_eq l k) (is_among (labels_of xs) l) (label_among xs r l e)
label_among (Do op mode operand ∷ xs) (suc r) l e = label_among xs r l e
label_among (Call callee ∷ xs) (suc r) l e = label_among xs r l e

-- labels that differ stand at one place each
pub label_once : (lines : List Line) (r l : ℕ) → is_distinct (labels_of lines) ≡ true → slice_get lines r ≡ Some (Label l) → labelled lines l ≡ r
label_once [] r l apart e = absurd (none-some (Label l) e)
label_once (x ∷ xs) zero l apart e =
    subst (λ y. labelled (y ∷ xs) l ≡ 0) (sym (same_Some x (Label l) e)) (ap (λ b. cond b 0 (suc (labelled xs l))) (eq-eqb l l refl))
label_once (Label k ∷ xs) (suc r) l apart e =
    let once = and_parts (not (is_among (labels_of xs) k)) (is_distinct (labels_of xs)) apart in
    ap (λ b. cond b 0 (suc (labelled xs l))) (differs (nat_eq k l) refl once.0) ∙ ap suc (label_once xs r l once.1 e)
  where
    differs : (b : Bool) → nat_eq k l ≡ b → not (is_among (labels_of xs) k) ≡ true → nat_eq k l ≡ false
    differs false h gone = h
    differs true h gone = absurd (true_not (is_among (labels_of xs) k) (subst (λ j. is_among (labels_of xs) j ≡ true) (sym (eqb-true k l h)) (label_among xs r l e)) gone)
label_once (Do op mode operand ∷ xs) (suc r) l apart e = ap suc (label_once xs r l apart e)
label_once (Call callee ∷ xs) (suc r) l apart e = ap suc (label_once xs r l apart e)

-- a label that is among the lines stands where it is found
pub label_there : (lines : List Line) (l : ℕ) → is_among (labels_of lines) l ≡ true → slice_get lines (labelled lines l) ≡ Some (Label l)
label_there [] l among = absurd (let f : false ≡ true = among in cc)
label_there (Label k ∷ xs) l among = by (nat_eq k l) refl (label_there xs l)
  where
    by : (b : Bool) → nat_eq k l ≡ b → (is_among (labels_of xs) l ≡ true → slice_get xs (labelled xs l) ≡ Some (Label l)) → slice_get (Label k ∷ xs) (cond b 0 (suc (labelled xs l))) ≡ Some (Label l)
    by true h rest = ap (λ j. Some (Label j)) (eqb-true k l h)
    by false h rest = rest (later (nat_eq l k) refl among)
      where
        later : (b : Bool) → nat_eq l k ≡ b → (b || is_among (labels_of xs) l) ≡ true → is_among (labels_of xs) l ≡ true
        later false e a = a
        later true e a = absurd (let f : true ≡ false = sym (eq-eqb k l (sym (eqb-true l k e))) ∙ h in cc)
label_there (Do op mode operand ∷ xs) l among = label_there xs l among
label_there (Call callee ∷ xs) l among = label_there xs l among

-- what a line goes to is among the labels
pub target_among : (all lines : List Line) (q l : ℕ) (line : Line) → list_all (is_among (labels_of all)) (targets_of lines) ≡ true → slice_get lines q ≡ Some line → target_of line ≡ l ∷ [] → is_among (labels_of all) l ≡ true
target_among all [] q l line h e t = absurd (none-some line e)
target_among all (x ∷ xs) zero l line h e t =
    let same : target_of x ≡ l ∷ [] = ap target_of (same_Some x line e) ∙ t in
    (and_parts (is_among (labels_of all) l) (list_all (is_among (labels_of all)) (targets_of xs)) (subst (λ ls. list_all (is_among (labels_of all)) (ls ++ targets_of xs) ≡ true) same h)).0
target_among all (x ∷ xs) (suc q) l line h e t = target_among all xs q l line (behind (target_of x) h) e t
  where
    behind : (ls : List ℕ) → list_all (is_among (labels_of all)) (ls ++ targets_of xs) ≡ true → list_all (is_among (labels_of all)) (targets_of xs) ≡ true
    behind [] g = g
    behind (k ∷ ls) g = behind ls (and_parts (is_among (labels_of all) k) (list_all (is_among (labels_of all)) (ls ++ targets_of xs)) g).1

-- the place to which a line goes
pub place_is : (lines : List Line) (q l : ℕ) (line : Line) → slice_get lines q ≡ Some line → target_of line ≡ l ∷ [] → slice_get (places_of lines) q ≡ Some (Some (labelled lines l))
place_is lines q l line e t = slice_get-map (place_of lines) lines q ∙ (ap (option_map (place_of lines)) e ∙ ap (λ ls. Some (labelled_at lines ls)) t)
