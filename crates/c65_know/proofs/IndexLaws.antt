-- The index of labels that a pass keeps, line by line.
use Rattle.std.proofs.Common.{◌≡◌, ℕ, zero, suc, ◌+◌, ◌<◌, ◌==◌, ◌||◌, Bool, true, false, cond, if◌then◌else◌, is_some, nat_eq, List, [], ◌∷◌, ◌++◌, length, take, drop, ◌-◌, ◌≤◌, get_or, set, Option, Some, None, refl, sym, ◌∙◌, ap, subst, eqb-true, eq-eqb, append-nil, arith}
use Rattle.std.specs.Map.{lookup}
use Rattle.indexmap.specs.IndexMap.{insert_entry}
use Rattle.c65_code.specs.declared.line.Line.{Line}
use Rattle.c65_code.specs.declared.line.Line.TheVariants.{Label, Do, Call}
use Rattle.c65_code.specs.declared.line.Operand.TheVariants.{Nothing, Byte, Low, High, Zero, At, To}
use Rattle.c65_code.specs.Segments.{targets_of, is_among}
use Rattle.c65_know.specs.declared.note.Note.{Note}
use Rattle.c65_know.specs.Notes.{nothing_known}
use Rattle.c65_know.specs.Known.{Way, leap, ways_of, all_ways, joined, met, note_at}
use Rattle.c65_know.specs.Index.{References, with_reference, AreReferences, is_back, backs_of, Index, IsIndex, with_way, known_at, noted_at}
use Rattle.c65_know.proofs.Meets.{known_met}
use Rattle.c65_know.proofs.Passes.{met_append, all_push}
use Rattle.std.proofs.lemmas.List.{drop_more, take_rest, take_more, take_more_set, length-take-le}

module _ {X : Type 0} where
  inserted_by : (a b : Bool) (e : ℕ × X) (es ins : List (ℕ × X)) (k q : ℕ) (v : X) → nat_eq k e.0 ≡ a → nat_eq q k ≡ b → lookup (nat_eq q) ins ≡ cond b (Some v) (lookup (nat_eq q) es) → lookup (nat_eq q) (cond a ((e.0, v) ∷ es) (e ∷ ins)) ≡ cond b (Some v) (lookup (nat_eq q) (e ∷ es))
  inserted_by true true e es ins k q v same at h =
      let q_is : nat_eq q e.0 ≡ true = subst (λ n. nat_eq q n ≡ true) (eqb-true k e.0 same) at in
      ap (λ b. cond b (Some v) (lookup (nat_eq q) es)) q_is
  inserted_by true false e es ins k q v same at h =
      let q_is : nat_eq q e.0 ≡ false = subst (λ n. nat_eq q n ≡ false) (eqb-true k e.0 same) at in
      ap (λ b. cond b (Some v) (lookup (nat_eq q) es)) q_is ∙ sym (ap (λ b. cond b (Some e.1) (lookup (nat_eq q) es)) q_is)
  inserted_by false true e es ins k q v same at h =
      let apart : nat_eq q e.0 ≡ false = subst (λ n. nat_eq n e.0 ≡ false) (sym (eqb-true q k at)) same in
      ap (λ b. cond b (Some e.1) (lookup (nat_eq q) ins)) apart ∙ h
  inserted_by false false e es ins k q v same at h = ap (λ r. cond (nat_eq q e.0) (Some e.1) r) h

  inserted : (es : List (ℕ × X)) (k q : ℕ) (v : X) → lookup (nat_eq q) (insert_entry nat_eq es k v) ≡ cond (nat_eq q k) (Some v) (lookup (nat_eq q) es)
  inserted [] k q v = refl
  inserted (e ∷ es) k q v = inserted_by (nat_eq k e.0) (nat_eq q k) e es (insert_entry nat_eq es k v) k q v refl refl (inserted es k q v)

-- one line more, from above
pub more_references : (labels : References) (line : Line) (at : ℕ) (lines : List Line) → AreReferences labels lines → AreReferences (with_reference line at labels) (line ∷ lines)
more_references labels (Do op mode (To k)) at lines h l = ap is_some (inserted labels k l at) ∙ by (nat_eq l k)
  where
    by : (b : Bool) → is_some (cond b (Some at) (lookup (nat_eq l) labels)) ≡ (b || is_among (targets_of lines) l)
    by true = refl
    by false = h l
more_references labels (Do op mode Nothing) at lines h l = h l
more_references labels (Do op mode (Byte n)) at lines h l = h l
more_references labels (Do op mode (Low s o)) at lines h l = h l
more_references labels (Do op mode (High s o)) at lines h l = h l
more_references labels (Do op mode (Zero n)) at lines h l = h l
more_references labels (Do op mode (At s o)) at lines h l = h l
more_references labels (Label k) at lines h l = h l
more_references labels (Call callee) at lines h l = h l

pub back_at : (lines : List Line) (at : ℕ) (line : Line) (none : Bool) → at < length lines → get_or (backs_of lines) at none ≡ is_back (get_or lines at line) (drop (at + 1) lines)
back_at [] at line none a = absurd (omega arith)
back_at (l ∷ lines) zero line none a = refl
back_at (l ∷ lines) (suc at) line none a =
    let e : suc (at + 1) ≡ suc at + 1 = omega arith in
    subst (λ (k : ℕ). get_or (backs_of lines) at none ≡ is_back (get_or lines at line) (drop k (l ∷ lines))) e (back_at lines at line none (omega arith))

-- one line more, from below
pub more_ways : (index : Index) (ways : List Way) (line : Line) (n : Note) → IsIndex index ways → IsIndex (with_way line n index) (ways ++ ways_of line n)
more_ways index ways (Do op mode (To k)) n h l =
    inserted index k l (joined (lookup (nat_eq k) index) (leap op n))
    ∙ (by (nat_eq l k) refl ∙ sym (met_append l ways (record { label = k; note = leap op n } ∷ []) None))
  where
    by : (b : Bool) → nat_eq l k ≡ b → cond b (Some (joined (lookup (nat_eq k) index) (leap op n))) (lookup (nat_eq l) index) ≡ (if k == l then Some (joined (met l None ways) (leap op n)) else met l None ways)
    by true e =
        let same : l ≡ k = eqb-true l k e in
        ap (λ q. Some (joined q (leap op n))) (h k ∙ ap (λ q. met q None ways) (sym same))
        ∙ sym (ap (λ b. if b then Some (joined (met l None ways) (leap op n)) else met l None ways) (eq-eqb k l (sym same)))
    by false e = h l ∙ sym (ap (λ b. if b then Some (joined (met l None ways) (leap op n)) else met l None ways) (swapped e))
      where
        swapped : nat_eq l k ≡ false → nat_eq k l ≡ false
        swapped f = differs (nat_eq k l) refl
          where
            differs : (c : Bool) → nat_eq k l ≡ c → nat_eq k l ≡ false
            differs false g = g
            differs true g = absurd (let x : true ≡ false = sym (eq-eqb l k (sym (eqb-true k l g))) ∙ f in cc)
more_ways index ways (Do op mode Nothing) n h l = h l ∙ ap (met l None) (sym (append-nil ways))
more_ways index ways (Do op mode (Byte b)) n h l = h l ∙ ap (met l None) (sym (append-nil ways))
more_ways index ways (Do op mode (Low s o)) n h l = h l ∙ ap (met l None) (sym (append-nil ways))
more_ways index ways (Do op mode (High s o)) n h l = h l ∙ ap (met l None) (sym (append-nil ways))
more_ways index ways (Do op mode (Zero b)) n h l = h l ∙ ap (met l None) (sym (append-nil ways))
more_ways index ways (Do op mode (At s o)) n h l = h l ∙ ap (met l None) (sym (append-nil ways))
more_ways index ways (Label k) n h l = h l ∙ ap (met l None) (sym (append-nil ways))
more_ways index ways (Call callee) n h l = h l ∙ ap (met l None) (sym (append-nil ways))

-- what the index gives at a line is its note
pub noted : (way : Option Note) (index : Index) (ways : List Way) (line : Line) (later : List Line) → IsIndex index ways → noted_at way index line (is_back line later) ≡ note_at way ways line later
noted way index ways (Label l) later h = ap (λ n. if is_among (targets_of later) l then nothing_known else n) (ap (known_at way) (h l) ∙ known_met l ways way)
noted way index ways (Do op mode operand) later h = refl
noted way index ways (Call callee) later h = refl

pub more_backs : (lines : List Line) (backs : List Bool) (at : ℕ) (line : Line) (b : Bool) → at < length lines → length backs ≡ length lines → b ≡ is_back (get_or lines at line) (drop (at + 1) lines)
    → drop (at + 1) backs ≡ backs_of (drop (at + 1) lines) → drop at (set backs at b) ≡ backs_of (drop at lines)
more_backs [] backs at line b a e f h = absurd (omega arith)
more_backs (l ∷ lines) [] at line b a e f h = absurd (omega arith)
more_backs (l ∷ lines) (x ∷ backs) zero line b a e f h = ap (λ y. y ∷ backs) f ∙ ap (λ ys. is_back l lines ∷ ys) h
more_backs (l ∷ lines) (x ∷ backs) (suc at) line b a e f h =
    let next : suc at + 1 ≡ suc (at + 1) = omega arith in
    more_backs lines backs at line b (omega arith) (omega arith)
    (subst (λ (k : ℕ). b ≡ is_back (get_or lines at line) (drop k (l ∷ lines))) next f)
    (subst (λ (k : ℕ). drop k (x ∷ backs) ≡ backs_of (drop k (l ∷ lines))) next h)

pub more_index : (lines : List Line) (notes : List Note) (at : ℕ) (line : Line) (n : Note) (index : Index) → at < length lines → length lines ≡ length notes → IsIndex index (all_ways (take at lines) (take at notes))
    → IsIndex (with_way (get_or lines at line) n index) (all_ways (take (at + 1) lines) (take (at + 1) (set notes at n)))
more_index lines notes at line n index a b h =
    let this : Line = get_or lines at line in
    let old : List Note = take at notes in
    let ways : List Way = all_ways (take at lines) old in
    let pushed : all_ways (take (at + 1) lines) (old ++ n ∷ []) ≡ ways ++ ways_of this n =
    ap (λ x. all_ways x (old ++ n ∷ [])) (take_more lines at line a) ∙ all_push (take at lines) old this n (length-take-le at lines (omega arith) ∙ sym (length-take-le at notes (omega arith))) in
    let now : take (at + 1) (set notes at n) ≡ old ++ n ∷ [] = take_more_set notes at n (omega arith) in
    subst (IsIndex (with_way this n index)) (sym (ap (all_ways (take (at + 1) lines)) now ∙ pushed)) (more_ways index ways this n h)

pub next_references : (lines : List Line) (labels new : References) (at : ℕ) (line : Line) → 0 < at → at ≤ length lines → new ≡ with_reference (get_or lines (at - 1) line) (at - 1) labels
    → AreReferences labels (drop at lines) → AreReferences new (drop (at - 1) lines)
next_references lines labels new at line a b e h =
    let this : Line = get_or lines (at - 1) line in
    let next : at - 1 + 1 ≡ at = omega arith in
    let cut : drop (at - 1) lines ≡ this ∷ drop at lines = drop_more lines (at - 1) line (omega arith) ∙ ap (λ (k : ℕ). this ∷ drop k lines) next in
    subst (AreReferences new) (sym cut) (subst (λ (ls : References). AreReferences ls (this ∷ drop at lines)) (sym e) (more_references labels this (at - 1) (drop at lines) h))

pub next_backs : (lines : List Line) (backs : List Bool) (at : ℕ) (line : Line) (b : Bool) → 0 < at → at ≤ length lines → length backs ≡ length lines → b ≡ is_back (get_or lines (at - 1) line) (drop at lines)
    → drop at backs ≡ backs_of (drop at lines) → drop (at - 1) (set backs (at - 1) b) ≡ backs_of (drop (at - 1) lines)
next_backs lines backs at line b a c e f h =
    let next : at ≡ at - 1 + 1 = omega arith in
    more_backs lines backs (at - 1) line b (omega arith) e
    (subst (λ (k : ℕ). b ≡ is_back (get_or lines (at - 1) line) (drop k lines)) next f)
    (subst (λ (k : ℕ). drop k backs ≡ backs_of (drop k lines)) next h)

-- what the index gives at the next line is its note
pub next_note : (lines : List Line) (notes : List Note) (way : Option Note) (index : Index) (backs : List Bool) (at : ℕ) (line : Line) (n : Note) (back none : Bool) → at < length lines → backs ≡ backs_of lines
    → back ≡ get_or backs at none → n ≡ noted_at way index (get_or lines at line) back → IsIndex index (all_ways (take at lines) (take at notes))
    → n ≡ note_at way (all_ways (take at lines) (take at notes)) (get_or lines at line) (take (length lines - (at + 1)) (drop (at + 1) lines))
next_note lines notes way index backs at line n back none a b e f h =
    let this : Line = get_or lines at line in
    let ways : List Way = all_ways (take at lines) (take at notes) in
    let found : back ≡ is_back this (drop (at + 1) lines) = e ∙ (ap (λ (bs : List Bool). get_or bs at none) b ∙ back_at lines at line none a) in
    f ∙ (ap (noted_at way index this) found ∙ (noted way index ways this (drop (at + 1) lines) h
    ∙ ap (note_at way ways this) (sym (take_rest lines (at + 1)))))

-- one line more of those whose ways the index has
pub index_on : (lines : List Line) (notes : List Note) (at : ℕ) (line : Line) (n : Note) (index : Index) → at < length lines → length lines ≡ length notes → IsIndex index (all_ways (take at lines) (take at notes))
    → IsIndex (with_way (get_or lines at line) (get_or notes at n) index) (all_ways (take (at + 1) lines) (take (at + 1) notes))
index_on lines notes at line n index a b h =
    let this : Line = get_or lines at line in
    let note : Note = get_or notes at n in
    let ways : List Way = all_ways (take at lines) (take at notes) in
    let pushed : all_ways (take (at + 1) lines) (take (at + 1) notes) ≡ ways ++ ways_of this note =
    ap (λ x. all_ways x (take (at + 1) notes)) (take_more lines at line a) ∙ (ap (all_ways (take at lines ++ this ∷ [])) (take_more notes at n (omega arith))
    ∙ all_push (take at lines) (take at notes) this note (length-take-le at lines (omega arith) ∙ sym (length-take-le at notes (omega arith)))) in
    subst (IsIndex (with_way this note index)) (sym pushed) (more_ways index ways this note h)
