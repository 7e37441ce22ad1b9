-- The table of lines in place of others is right where all ways through their place go straight.
use Rattle.std.proofs.Common.{◌≡◌, ◌⊎◌, inl, inr, ◌&&◌, ℕ, zero, suc, ◌+◌, ◌-◌, ◌<◌, ◌≤◌, not, Bool, true, false, IsTrue, List, [], ◌∷◌, ◌++◌, Some, length, take, drop, get_or, slice_get, if◌then◌else◌, ◌==◌, refl, sym, ◌∙◌, ap, subst, arith, length-append, length-drop}
use Rattle.std.proofs.lemmas.List.{length-take-le}
use Rattle.std.specs.Prelude.{◌↔◌}
use Rattle.std.proofs.lemmas.Bool.{cases_lt}
use Rattle.std.proofs.lemmas.Option.{same_Some, none-some}
use Rattle.c65_code.specs.declared.parts.Part.{Part}
use Rattle.c65_code.specs.declared.parts.RegSet.{RegSet}
use Rattle.c65_mach.specs.declared.rows.Op.TheVariants as ops
use Rattle.c65_code.specs.declared.line.Line.{Line}
use Rattle.c65_code.specs.declared.line.Line.TheVariants.{Label, Do, Call}
use Rattle.c65_code.specs.Parts.{has_part, no_parts, minus_of}
use Rattle.c65_code.specs.Access.{line_reads, line_sets}
use Rattle.c65_code.specs.Segments.{target_of, is_closing}
use Rattle.c65_code.specs.Moves.{labelled}
use Rattle.c65_live.specs.Live.{Next, onward, goes, left_parts, IsLive, left, read, kept}
use Rattle.c65_live.specs.Renewals.{goes_nowhere, is_plain, are_plain, before_line, before_all, afters, IsSettledBefore}
use Rattle.c65_live.proofs.Sets.{in_none, in_union, in_minus, union_left, union_right, minus_in, yes_or_no}
use Rattle.c65_live.proofs.Lists.{nth_left, nth_right, nth_drop}

-- plain lines
both : (a b : Bool) → a && b ≡ true → (a ≡ true) × (b ≡ true)
both true true e = (refl, refl)
both true false e = absurd (let f : false ≡ true = e in cc)
both false b e = absurd (let f : false ≡ true = e in cc)

not_closed : (b : Bool) → not b ≡ true → b ≡ false
not_closed false e = refl
not_closed true e = absurd (let f : false ≡ true = e in cc)

no_label : (ls : List ℕ) → goes_nowhere ls ≡ true → ls ≡ []
no_label [] e = refl
no_label (l ∷ ls) e = absurd (let f : false ≡ true = e in cc)

plain_parts : (line : Line) → is_plain line ≡ true → (is_closing line ≡ false) × (target_of line ≡ [])
plain_parts (Label l) e = absurd (let f : false ≡ true = e in cc)
plain_parts (Do op mode operand) e = let b = both _ _ e in (not_closed _ b.0, no_label _ b.1)
plain_parts (Call callee) e = let b = both _ _ e in (not_closed _ b.0, no_label _ b.1)

plain_is_no_label : (line : Line) (l : ℕ) → is_plain line ≡ true → line ≡ Label l → ⊥
plain_is_no_label line l e same = let f : is_plain (Label l) ≡ true = subst (λ x. is_plain x ≡ true) same e in let g : false ≡ true = f in cc

plain_leaves_nothing : (out : RegSet) (line : Line) → is_closing line ≡ false → left_parts out line ≡ no_parts
plain_leaves_nothing out (Do ops.Rts mode operand) e = absurd (let f : true ≡ false = e in cc)
plain_leaves_nothing out (Do ops.Jmp mode operand) e = absurd (let f : true ≡ false = e in cc)
plain_leaves_nothing out line e = refl

-- a label among lines one behind the other
labelled_left : (xs ys : List Line) (l : ℕ) → labelled xs l < length xs → labelled (xs ++ ys) l ≡ labelled xs l
labelled_left [] ys l h = absurd (omega (arith, h))
labelled_left (Label k ∷ xs) ys l h = by (k == l) h (labelled_left xs ys l)
  where
    by : (b : Bool) → (if b then 0 else suc (labelled xs l)) < suc (length xs) → (labelled xs l < length xs → labelled (xs ++ ys) l ≡ labelled xs l)
        → (if b then 0 else suc (labelled (xs ++ ys) l)) ≡ (if b then 0 else suc (labelled xs l))
    by true less rest = refl
    by false less rest = ap suc (rest (omega (arith, less)))
labelled_left (Do op mode operand ∷ xs) ys l h = ap suc (labelled_left xs ys l (omega (arith, h)))
labelled_left (Call callee ∷ xs) ys l h = ap suc (labelled_left xs ys l (omega (arith, h)))

later : (n m k : ℕ) → k ≡ n + m → suc k ≡ suc n + m
later n m k e = omega (arith, e)

labelled_right : (xs ys : List Line) (l : ℕ) → length xs ≤ labelled xs l → labelled (xs ++ ys) l ≡ length xs + labelled ys l
labelled_right [] ys l h = omega arith
labelled_right (Label k ∷ xs) ys l h = by (k == l) h (labelled_right xs ys l)
  where
    by : (b : Bool) → suc (length xs) ≤ (if b then 0 else suc (labelled xs l)) → (length xs ≤ labelled xs l → labelled (xs ++ ys) l ≡ length xs + labelled ys l)
        → (if b then 0 else suc (labelled (xs ++ ys) l)) ≡ suc (length xs) + labelled ys l
    by true more rest = absurd (omega (arith, more))
    by false more rest = let e : suc (length xs + labelled ys l) ≡ suc (length xs) + labelled ys l = omega arith in ap suc (rest (omega (arith, more))) ∙ e
labelled_right (Do op mode operand ∷ xs) ys l h = later (length xs) (labelled ys l) (labelled (xs ++ ys) l) (labelled_right xs ys l (omega (arith, h)))
labelled_right (Call callee ∷ xs) ys l h = later (length xs) (labelled ys l) (labelled (xs ++ ys) l) (labelled_right xs ys l (omega (arith, h)))

plain_more : (line : Line) (lines : List Line) → are_plain (line ∷ lines) ≡ true → (is_plain line ≡ true) × (are_plain lines ≡ true)
plain_more line lines e = both (is_plain line) (are_plain lines) e

-- past plain lines each label stands as many lines later
labelled_plain : (xs ys : List Line) (l : ℕ) → are_plain xs ≡ true → labelled (xs ++ ys) l ≡ length xs + labelled ys l
labelled_plain [] ys l e = omega arith
labelled_plain (Label k ∷ xs) ys l e = absurd (let f : false ≡ true = (plain_more (Label k) xs e).0 in cc)
labelled_plain (Do op mode operand ∷ xs) ys l e = later (length xs) (labelled ys l) (labelled (xs ++ ys) l) (labelled_plain xs ys l (plain_more (Do op mode operand) xs e).1)
labelled_plain (Call callee ∷ xs) ys l e = later (length xs) (labelled ys l) (labelled (xs ++ ys) l) (labelled_plain xs ys l (plain_more (Call callee) xs e).1)

plain_at : (xs : List Line) (k : ℕ) (line : Line) → are_plain xs ≡ true → slice_get xs k ≡ Some line → is_plain line ≡ true
plain_at [] k line e h = absurd (none-some line h)
plain_at (x ∷ xs) zero line e h = subst (λ y. is_plain y ≡ true) (same_Some x line h) (plain_more x xs e).0
plain_at (x ∷ xs) (suc k) line e h = plain_at xs k line (plain_more x xs e).1 h

plain_drop : (k : ℕ) (xs : List Line) → are_plain xs ≡ true → are_plain (drop k xs) ≡ true
plain_drop zero xs e = e
plain_drop (suc k) [] e = refl
plain_drop (suc k) (x ∷ xs) e = plain_drop k xs (plain_more x xs e).1

nth_some : (xs : List Line) (k : ℕ) → k < length xs → (line : Line) × (slice_get xs k ≡ Some line)
nth_some [] k h = absurd (omega (arith, h))
nth_some (x ∷ xs) zero h = (x, refl)
nth_some (x ∷ xs) (suc k) h = nth_some xs k (omega (arith, h))

drop_all : (k : ℕ) (xs : List Line) → length xs ≤ k → drop k xs ≡ []
drop_all zero [] h = refl
drop_all zero (x ∷ xs) h = absurd (omega (arith, h))
drop_all (suc k) [] h = refl
drop_all (suc k) (x ∷ xs) h = drop_all k xs (omega (arith, h))

-- a part is live before a line: the line reads it, or does not set it and it is live after it
pub record IsBefore (lines : List Line) (out : RegSet) (r : ℕ) (p : Part) : Type 0 where
  pub line : Line
  pub here : slice_get lines r ≡ Some line
  pub by : IsTrue (has_part (line_reads out line) p) ⊎ ((has_part (line_sets line) p ≡ false) × IsLive lines out r p)

live_by : (lines : List Line) (out : RegSet) (q r : ℕ) (p : Part) → Next lines q r → IsBefore lines out r p → IsLive lines out q p
live_by lines out q r p n b = elim b.by as (λ _. IsLive lines out q p) [
  | inl reads ↦ read n b.here reads
  | inr on ↦ kept n b.here on.0 on.1
]

-- behind a plain line the next one alone comes
plain_next : (lines : List Line) (q r : ℕ) (line : Line) → slice_get lines q ≡ Some line → is_plain line ≡ true → Next lines q r → r ≡ q + 1
plain_next lines q _ line h plain (onward e c) = refl
plain_next lines q _ line h plain (goes {label = label} {l = l} e t) =
    let same : line ≡ l = same_Some line l (sym h ∙ e) in
    let none : target_of l ≡ [] = subst (λ x. target_of x ≡ []) same (plain_parts line plain).1 in
    absurd (let f : label ∷ [] ≡ [] = sym t ∙ none in let g : suc zero ≡ zero = ap length f in omega (arith, g))

plain_onward : (lines : List Line) (q : ℕ) (line : Line) → slice_get lines q ≡ Some line → is_plain line ≡ true → Next lines q (q + 1)
plain_onward lines q line h plain = onward h (plain_parts line plain).0

-- what is live after a plain line is so before the next one
plain_before : (lines : List Line) (out : RegSet) (q : ℕ) (p : Part) (line : Line) → slice_get lines q ≡ Some line → is_plain line ≡ true → IsLive lines out q p → IsBefore lines out (q + 1) p
plain_before lines out q p line h plain (left {l = l} e reads) =
    let same : line ≡ l = same_Some line l (sym h ∙ e) in
    let none : left_parts out l ≡ no_parts = plain_leaves_nothing out l (subst (λ x. is_closing x ≡ false) same (plain_parts line plain).0) in
    absurd (in_none p (subst (λ s. IsTrue (has_part s p)) none reads))
plain_before lines out q p line h plain (read {r = r} {l = l} n e reads) =
    let next : r ≡ q + 1 = plain_next lines q r line h plain n in
    subst (λ k. IsBefore lines out k p) next (record { line = l; here = e; by = inl reads })
plain_before lines out q p line h plain (kept {r = r} {l = l} n e f i) =
    let next : r ≡ q + 1 = plain_next lines q r line h plain n in
    subst (λ k. IsBefore lines out k p) next (record { line = l; here = e; by = inr (f, i) })

-- along plain lines that stand among others from a place on
abbrev AreThere : List Line → ℕ → List Line → Type 0
AreThere lines at xs = (k : ℕ) → k < length xs → slice_get lines (at + k) ≡ slice_get xs k

there_rest : (lines : List Line) (at : ℕ) (x : Line) (xs : List Line) → AreThere lines at (x ∷ xs) → AreThere lines (at + 1) xs
there_rest lines at x xs t k h = let e : at + 1 + k ≡ at + suc k = omega arith in ap (slice_get lines) e ∙ t (suc k) (omega (arith, h))

there_first : (lines : List Line) (at : ℕ) (x : Line) (xs : List Line) → AreThere lines at (x ∷ xs) → slice_get lines at ≡ Some x
there_first lines at x xs t = let e : at ≡ at + 0 = omega arith in ap (slice_get lines) e ∙ t 0 (omega arith)

into : (lines : List Line) (out : RegSet) (at : ℕ) (xs : List Line) (after : RegSet) (p : Part) → AreThere lines at xs → are_plain xs ≡ true
    → IsTrue (has_part (before_all out xs after) p) → (IsTrue (has_part after p) → IsBefore lines out (at + length xs) p) → IsBefore lines out at p
into lines out at [] after p t e h k = let z : at + 0 ≡ at = omega arith in subst (λ q. IsBefore lines out q p) z (k h)
into lines out at (x ∷ xs) after p t e h k = elim (in_union (line_reads out x) (minus_of (before_all out xs after) (line_sets x)) p h) as (λ _. IsBefore lines out at p) [
  | inl reads ↦ record { line = x; here = there_first lines at x xs t; by = inl reads }
  | inr on ↦
      let m = in_minus (before_all out xs after) (line_sets x) p on in
      let plain = plain_more x xs e in
      let same : at + 1 + length xs ≡ at + suc (length xs) = omega arith in
      let next = into lines out (at + 1) xs after p (there_rest lines at x xs t) plain.1 m.0 (λ a. subst (λ q. IsBefore lines out q p) (sym same) (k a)) in
      let here = there_first lines at x xs t in
      record { line = x; here = here; by = inr (m.1, live_by lines out at (at + 1) p (plain_onward lines at x here plain.0) next) }
]

out_of : (lines : List Line) (out : RegSet) (at : ℕ) (xs : List Line) (after : RegSet) (p : Part) → AreThere lines at xs → are_plain xs ≡ true
    → (IsBefore lines out (at + length xs) p → IsTrue (has_part after p)) → IsBefore lines out at p → IsTrue (has_part (before_all out xs after) p)
out_of lines out at [] after p t e k b = let z : at ≡ at + 0 = omega arith in k (subst (λ q. IsBefore lines out q p) z b)
out_of lines out at (x ∷ xs) after p t e k b =
    let here = there_first lines at x xs t in
    let same : x ≡ b.line = same_Some x b.line (sym here ∙ b.here) in
    let plain = plain_more x xs e in
    let last : at + suc (length xs) ≡ at + 1 + length xs = omega arith in
    elim b.by as (λ _. IsTrue (has_part (before_line out x (before_all out xs after)) p)) [
      | inl reads ↦ union_left (line_reads out x) (minus_of (before_all out xs after) (line_sets x)) p (subst (λ y. IsTrue (has_part (line_reads out y) p)) (sym same) reads)
      | inr on ↦
          let next = plain_before lines out at p x here plain.0 on.1 in
          let rest = out_of lines out (at + 1) xs after p (there_rest lines at x xs t) plain.1 (λ c. k (subst (λ q. IsBefore lines out q p) (sym last) c)) next in
          union_right (line_reads out x) (minus_of (before_all out xs after) (line_sets x)) p
          (minus_in (before_all out xs after) (line_sets x) p rest (subst (λ y. has_part (line_sets y) p ≡ false) (sym same) on.0))
    ]

module _ (front behind : List Line) where
  abbrev pub whole : List Line → List Line
  whole xs = front ++ (xs ++ behind)

  -- places outside of the lines xs and ys at which the same line stands
  data Same (xs ys : List Line) : ℕ → ℕ → Type 0 where
    before : {q : ℕ} → q < length front → Same xs ys q q
    past : (j : ℕ) → Same xs ys (length front + (length xs + j)) (length front + (length ys + j))

  at_front : (xs : List Line) (q : ℕ) → q < length front → slice_get (whole xs) q ≡ slice_get front q
  at_front xs q h = nth_left front (xs ++ behind) q h

  at_past : (xs : List Line) (j : ℕ) → slice_get (whole xs) (length front + (length xs + j)) ≡ slice_get behind j
  at_past xs j = nth_right front (xs ++ behind) (length xs + j) ∙ nth_right xs behind j

  in_there : (xs : List Line) → AreThere (whole xs) (length front) xs
  in_there xs k h = nth_right front (xs ++ behind) k ∙ nth_left xs behind k h

  same_line : (xs ys : List Line) (q r : ℕ) → Same xs ys q r → slice_get (whole xs) q ≡ slice_get (whole ys) r
  same_line xs ys _ _ (before {q = q} h) = at_front xs q h ∙ sym (at_front ys q h)
  same_line xs ys _ _ (past j) = at_past xs j ∙ sym (at_past ys j)

  same_label : (xs ys : List Line) (l : ℕ) → are_plain xs ≡ true → are_plain ys ≡ true → Same xs ys (labelled (whole xs) l) (labelled (whole ys) l)
  same_label xs ys l e f = elim (cases_lt (labelled front l) (length front)) as (λ _. Same xs ys (labelled (front ++ (xs ++ behind)) l) (labelled (front ++ (ys ++ behind)) l)) [
    | inl h ↦ subst (λ q. Same xs ys q (labelled (front ++ (ys ++ behind)) l)) (sym (labelled_left front (xs ++ behind) l h))
        (subst (λ r. Same xs ys (labelled front l) r) (sym (labelled_left front (ys ++ behind) l h)) (before h))
    | inr h ↦
        let one : labelled (front ++ (xs ++ behind)) l ≡ length front + (length xs + labelled behind l) = labelled_right front (xs ++ behind) l h ∙ ap (λ k. length front + k) (labelled_plain xs behind l e) in
        let two : labelled (front ++ (ys ++ behind)) l ≡ length front + (length ys + labelled behind l) = labelled_right front (ys ++ behind) l h ∙ ap (λ k. length front + k) (labelled_plain ys behind l f) in
        subst (λ q. Same xs ys q (labelled (front ++ (ys ++ behind)) l)) (sym one) (subst (λ r. Same xs ys (length front + (length xs + labelled behind l)) r) (sym two) (past (labelled behind l)))
  ]

  -- where a line outside leads: outside again, in both, or into the lines
  data Leads (xs ys : List Line) (q r : ℕ) : Type 0 where
    outside : {s : ℕ} → Same xs ys r s → Next (whole ys) q s → Leads xs ys q r
    inside : r ≡ length front → 0 < length front → Next (whole ys) q (length front) → Leads xs ys q r

  leads : (xs ys : List Line) (q s r : ℕ) → are_plain xs ≡ true → are_plain ys ≡ true → Same xs ys q s → Next (whole xs) q r → Leads xs ys s r
  leads xs ys q s _ e f same (goes {label = label} h t) = outside (same_label xs ys label e f) (goes (sym (same_line xs ys q s same) ∙ h) t)
  leads xs ys _ _ _ e f (past j) (onward h c) =
      let one : length front + (length xs + j) + 1 ≡ length front + (length xs + (j + 1)) = omega arith in
      let two : length front + (length ys + j) + 1 ≡ length front + (length ys + (j + 1)) = omega arith in
      let next : Next (whole ys) (length front + (length ys + j)) (length front + (length ys + j) + 1) = onward (sym (same_line xs ys _ _ (past j)) ∙ h) c in
      outside (subst (λ k. Same xs ys k (length front + (length ys + (j + 1)))) (sym one) (past (j + 1))) (subst (λ k. Next (whole ys) (length front + (length ys + j)) k) two next)
  leads xs ys _ _ _ e f (before {q = q} less) (onward h c) = elim (cases_lt (q + 1) (length front)) as (λ _. Leads xs ys q (q + 1)) [
    | inl more ↦ outside (before more) (onward (sym (same_line xs ys q q (before less)) ∙ h) c)
    | inr last ↦
        let end : q + 1 ≡ length front = omega (arith, less, last) in
        inside end (omega (arith, less)) (subst (λ k. Next (whole ys) q k) end (onward (sym (same_line xs ys q q (before less)) ∙ h) c))
  ]

  same_back : (xs ys : List Line) (q r : ℕ) → Same xs ys q r → Same ys xs r q
  same_back xs ys _ _ (before h) = before h
  same_back xs ys _ _ (past j) = past j

  -- a place is outside of the lines, or it is that of one of them
  data Stands (xs : List Line) (q : ℕ) : Type 0 where
    in_front : q < length front → Stands xs q
    among : (k : ℕ) → k < length xs → q ≡ length front + k → Stands xs q
    in_behind : (j : ℕ) → q ≡ length front + (length xs + j) → Stands xs q

  stands : (xs : List Line) (q : ℕ) → Stands xs q
  stands xs q = elim (cases_lt q (length front)) as (λ _. Stands xs q) [
    | inl h ↦ in_front h
    | inr h ↦ elim (cases_lt (q - length front) (length xs)) as (λ _. Stands xs q) [
      | inl k ↦ among (q - length front) k (omega (arith, h))
      | inr k ↦ in_behind (q - length front - length xs) (omega (arith, h, k))
    ]
  ]

  module _ (out : RegSet) (old new : List Line) (after : RegSet) (old_plain : are_plain old ≡ true) (new_plain : are_plain new ≡ true)
      (settled : 0 < length front → IsSettledBefore out old new after)
      (of_after : (p : Part) → IsTrue (has_part after p) → IsBefore (whole old) out (length front + length old) p)
      (in_after : (p : Part) → IsBefore (whole old) out (length front + length old) p → IsTrue (has_part after p)) where
    -- what an old line outside has live after it is live there behind the new lines too; what one of the old lines has is read by one of
    -- them, or live behind the new ones
    record Stays (q : ℕ) (p : Part) : Type 0 where
      outer : (r : ℕ) → Same old new q r → IsLive (whole new) out r p
      inner : (k : ℕ) → k < length old → q ≡ length front + k → IsTrue (has_part (before_all out (drop (k + 1) old) no_parts) p) ⊎ IsBefore (whole new) out (length front + length new) p

    record StaysBefore (r : ℕ) (p : Part) : Type 0 where
      outer : (s : ℕ) → Same old new r s → IsBefore (whole new) out s p
      inner : (k : ℕ) → k < length old → r ≡ length front + k → IsTrue (has_part (before_all out (drop k old) no_parts) p) ⊎ IsBefore (whole new) out (length front + length new) p

    drop_at_line : (xs : List Line) (k : ℕ) (line : Line) → slice_get xs k ≡ Some line → drop k xs ≡ line ∷ drop (k + 1) xs
    drop_at_line [] k line h = absurd (none-some line h)
    drop_at_line (x ∷ xs) zero line h = ap (λ y. y ∷ xs) (same_Some x line h)
    drop_at_line (x ∷ xs) (suc k) line h = let e : suc (k + 1) ≡ suc k + 1 = omega arith in drop_at_line xs k line h ∙ ap (λ n. line ∷ drop n (x ∷ xs)) e

    line_among : (k : ℕ) (line : Line) → k < length old → slice_get (whole old) (length front + k) ≡ Some line → slice_get old k ≡ Some line
    line_among k line h e = sym (in_there old k h) ∙ e

    stays_before : (r : ℕ) (p : Part) (line : Line) → slice_get (whole old) r ≡ Some line
        → IsTrue (has_part (line_reads out line) p) ⊎ ((has_part (line_sets line) p ≡ false) × Stays r p) → StaysBefore r p
    stays_before r p line h by = record {
      outer = λ s same. record {
        line = line;
        here = sym (same_line old new r s same) ∙ h;
        by = elim by as (λ _. IsTrue (has_part (line_reads out line) p) ⊎ ((has_part (line_sets line) p ≡ false) × IsLive (whole new) out s p)) [ inl reads ↦ inl reads | inr on ↦ inr (on.0, on.1.outer s same) ];
      };
      inner = λ k less at.
          let mine : slice_get old k ≡ Some line = line_among k line less (subst (λ q. slice_get (whole old) q ≡ Some line) at h) in
          let cut : drop k old ≡ line ∷ drop (k + 1) old = drop_at_line old k line mine in
          let rest : RegSet = before_all out (drop (k + 1) old) no_parts in
          elim by as (λ _. IsTrue (has_part (before_all out (drop k old) no_parts) p) ⊎ IsBefore (whole new) out (length front + length new) p) [
            | inl reads ↦ inl (subst (λ ls. IsTrue (has_part (before_all out ls no_parts) p)) (sym cut) (union_left (line_reads out line) (minus_of rest (line_sets line)) p reads))
            | inr on ↦ elim (on.1.inner k less at) as (λ _. IsTrue (has_part (before_all out (drop k old) no_parts) p) ⊎ IsBefore (whole new) out (length front + length new) p) [
              | inl read_later ↦ inl (subst (λ ls. IsTrue (has_part (before_all out ls no_parts) p)) (sym cut)
                  (union_right (line_reads out line) (minus_of rest (line_sets line)) p (minus_in rest (line_sets line) p read_later on.0)))
              | inr behind_all ↦ inr behind_all
            ]
          ];
    }

    first_past : length front + length old ≡ length front + (length old + 0)
    first_past = omega arith

    new_past : length front + (length new + 0) ≡ length front + length new
    new_past = omega arith

    -- before the first of the old lines: read by one of them, or live behind the new ones
    at_first : (p : Part) → StaysBefore (length front) p → IsTrue (has_part (before_all out old no_parts) p) ⊎ IsBefore (whole new) out (length front + length new) p
    at_first p b = elim (cases_lt 0 (length old)) as (λ _. IsTrue (has_part (before_all out old no_parts) p) ⊎ IsBefore (whole new) out (length front + length new) p) [
      | inl some ↦ b.inner 0 some (omega arith)
      | inr none ↦
          let start : length front + (length old + 0) ≡ length front = omega (arith, none) in
          inr (subst (λ r. IsBefore (whole new) out r p) new_past (b.outer (length front + (length new + 0)) (subst (λ q. Same old new q (length front + (length new + 0))) start (past 0))))
    ]

    enter : (p : Part) → 0 < length front → IsBefore (whole old) out (length front) p → StaysBefore (length front) p → IsBefore (whole new) out (length front) p
    enter p some was stays =
        let s : IsSettledBefore out old new after = settled some in
        let all : IsTrue (has_part (before_all out old after) p) = out_of (whole old) out (length front) old after p (in_there old) old_plain (in_after p) was in
        let now : IsTrue (has_part (before_all out new after) p) = subst (λ t. IsTrue (has_part t p)) (sym s.same) all in
        elim (at_first p stays) as (λ _. IsBefore (whole new) out (length front) p) [
          | inr later ↦ into (whole new) out (length front) new after p (in_there new) new_plain now (λ _. later)
          | inl reads ↦ elim (yes_or_no (has_part after p)) as (λ _. IsBefore (whole new) out (length front) p) [
            | inl live ↦ into (whole new) out (length front) new no_parts p (in_there new) new_plain (s.read p live reads) (λ h. absurd (in_none p h))
            | inr dead ↦ into (whole new) out (length front) new after p (in_there new) new_plain now (λ h. absurd (let e : false ≡ true = sym dead ∙ h in cc))
          ]
        ]

    by_next : (q r : ℕ) (p : Part) → Next (whole old) q r → IsBefore (whole old) out r p → StaysBefore r p → Stays q p
    by_next q r p n was stays = record {
      outer = λ s same. elim (leads old new q s r old_plain new_plain same n) as (λ _. IsLive (whole new) out s p) [
        | outside {s = t} there next ↦ live_by (whole new) out s t p next (stays.outer t there)
        | inside start some next ↦ live_by (whole new) out s (length front) p next (enter p some (subst (λ k. IsBefore (whole old) out k p) start was) (subst (λ k. StaysBefore k p) start stays))
      ];
      inner = λ k less at.
          let (line, h) = nth_some old k less in
          let here : slice_get (whole old) q ≡ Some line = subst (λ i. slice_get (whole old) i ≡ Some line) (sym at) (in_there old k less ∙ h) in
          let step : r ≡ q + 1 = plain_next (whole old) q r line here (plain_at old k line old_plain h) n in
          elim (cases_lt (k + 1) (length old)) as (λ _. IsTrue (has_part (before_all out (drop (k + 1) old) no_parts) p) ⊎ IsBefore (whole new) out (length front + length new) p) [
            | inl more ↦ stays.inner (k + 1) more (omega (arith, step, at))
            | inr last ↦
                let end : length front + (length old + 0) ≡ r = omega (arith, step, at, less, last) in
                inr (subst (λ i. IsBefore (whole new) out i p) new_past (stays.outer (length front + (length new + 0)) (subst (λ i. Same old new i (length front + (length new + 0))) end (past 0))))
          ];
    }

    all_stay : (q : ℕ) (p : Part) → IsLive (whole old) out q p → Stays q p
    all_stay q p (read {r = r} {l = l} n h reads) = by_next q r p n (record { line = l; here = h; by = inl reads }) (stays_before r p l h (inl reads))
    all_stay q p (kept {r = r} {l = l} n h f i) = by_next q r p n (record { line = l; here = h; by = inr (f, i) }) (stays_before r p l h (inr (f, all_stay r p i)))
    all_stay q p (left {l = l} h reads) = record {
      outer = λ r same. left (sym (same_line old new q r same) ∙ h) reads;
      inner = λ k less at.
          let here : slice_get old k ≡ Some l = line_among k l less (subst (λ i. slice_get (whole old) i ≡ Some l) at h) in
          let none : left_parts out l ≡ no_parts = plain_leaves_nothing out l (plain_parts l (plain_at old k l old_plain here)).0 in
          absurd (in_none p (subst (λ s. IsTrue (has_part s p)) none reads));
    }

    module _ (live : List RegSet) (exact : (q : ℕ) (p : Part) → IsTrue (has_part (get_or live q no_parts) p) ↔ IsLive (whole old) out q p)
        (long : length live ≡ length front + (length old + length behind)) where
      abbrev pub table : List RegSet
      table = take (length front) live ++ (afters out new after ++ drop (length front + length old) live)

      -- the table outside is the old one, and inside what is live before the new lines behind
      get_left : (xs ys : List RegSet) (k : ℕ) → k < length xs → get_or (xs ++ ys) k no_parts ≡ get_or xs k no_parts
      get_left [] ys k h = absurd (omega (arith, h))
      get_left (x ∷ xs) ys zero h = refl
      get_left (x ∷ xs) ys (suc k) h = get_left xs ys k (omega (arith, h))

      get_right : (xs ys : List RegSet) (k n : ℕ) → n ≡ length xs + k → get_or (xs ++ ys) n no_parts ≡ get_or ys k no_parts
      get_right [] ys k n e = let f : n ≡ k = omega (arith, e) in ap (λ i. get_or ys i no_parts) f
      get_right (x ∷ xs) ys k zero e = absurd (omega (arith, e))
      get_right (x ∷ xs) ys k (suc n) e = get_right xs ys k n (omega (arith, e))

      get_take : (n : ℕ) (xs : List RegSet) (k : ℕ) → k < n → get_or (take n xs) k no_parts ≡ get_or xs k no_parts
      get_take zero xs k h = absurd (omega (arith, h))
      get_take (suc n) [] k h = refl
      get_take (suc n) (x ∷ xs) zero h = refl
      get_take (suc n) (x ∷ xs) (suc k) h = get_take n xs k (omega (arith, h))

      get_drop : (n : ℕ) (xs : List RegSet) (k : ℕ) → get_or (drop n xs) k no_parts ≡ get_or xs (n + k) no_parts
      get_drop zero xs k = let e : k ≡ 0 + k = omega arith in ap (λ i. get_or xs i no_parts) e
      get_drop (suc n) [] k = refl
      get_drop (suc n) (x ∷ xs) k = let e : suc (n + k) ≡ suc n + k = omega arith in get_drop n xs k ∙ ap (λ i. get_or (x ∷ xs) i no_parts) e

      afters_long : (xs : List Line) (s : RegSet) → length (afters out xs s) ≡ length xs
      afters_long [] s = refl
      afters_long (x ∷ xs) s = ap suc (afters_long xs s)

      get_afters : (xs : List Line) (s : RegSet) (k : ℕ) → k < length xs → get_or (afters out xs s) k no_parts ≡ before_all out (drop (k + 1) xs) s
      get_afters [] s k h = absurd (omega (arith, h))
      get_afters (x ∷ xs) s zero h = refl
      get_afters (x ∷ xs) s (suc k) h = let e : suc (k + 1) ≡ suc k + 1 = omega arith in get_afters xs s k (omega (arith, h)) ∙ ap (λ i. before_all out (drop i (x ∷ xs)) s) e

      first_long : length (take (length front) live) ≡ length front
      first_long = length-take-le (length front) live (omega (arith, long))

      outer_set : (q r : ℕ) → Same old new q r → get_or table r no_parts ≡ get_or live q no_parts
      outer_set _ _ (before {q = q} h) = get_left (take (length front) live) (afters out new after ++ drop (length front + length old) live) q (omega (arith, h, first_long)) ∙ get_take (length front) live q h
      outer_set _ _ (past j) =
          let a : length (afters out new after) ≡ length new = afters_long new after in
          get_right (take (length front) live) (afters out new after ++ drop (length front + length old) live) (length new + j) (length front + (length new + j)) (omega (arith, first_long))
          ∙ (get_right (afters out new after) (drop (length front + length old) live) j (length new + j) (omega (arith, a))
          ∙ (get_drop (length front + length old) live j ∙ ap (λ i. get_or live i no_parts) (omega arith)))

      inner_set : (k : ℕ) → k < length new → get_or table (length front + k) no_parts ≡ before_all out (drop (k + 1) new) after
      inner_set k h =
          let a : length (afters out new after) ≡ length new = afters_long new after in
          get_right (take (length front) live) (afters out new after ++ drop (length front + length old) live) k (length front + k) (omega (arith, first_long))
          ∙ (get_left (afters out new after) (drop (length front + length old) live) k (omega (arith, a, h)) ∙ get_afters new after k h)

      -- what is live behind the new lines
      of_rest : (p : Part) → IsTrue (has_part after p) → IsBefore (whole new) out (length front + length new) p
      of_rest p h =
          let was = of_after p h in
          let start : length front + length old ≡ length front + (length old + 0) = omega arith in
          let stays = stays_before (length front + length old) p was.line was.here (elim was.by as (λ _. IsTrue (has_part (line_reads out was.line) p) ⊎ ((has_part (line_sets was.line) p ≡ false) × Stays (length front + length old) p)) [
            | inl reads ↦ inl reads
            | inr on ↦ inr (on.0, all_stay (length front + length old) p on.1)
          ]) in
          subst (λ r. IsBefore (whole new) out r p) new_past (stays.outer (length front + (length new + 0)) (subst (λ q. Same old new q (length front + (length new + 0))) (sym start) (past 0)))

      sound_at : (r : ℕ) (p : Part) → Stands new r → IsTrue (has_part (get_or table r no_parts) p) → IsLive (whole new) out r p
      sound_at r p (in_front less) h = (all_stay r p ((exact r p).0 (subst (λ s. IsTrue (has_part s p)) (outer_set r r (before less)) h))).outer r (before less)
      sound_at r p (in_behind j e) h =
          let same : Same old new (length front + (length old + j)) r = subst (λ i. Same old new (length front + (length old + j)) i) (sym e) (past j) in
          (all_stay (length front + (length old + j)) p ((exact (length front + (length old + j)) p).0 (subst (λ s. IsTrue (has_part s p)) (outer_set _ r same) h))).outer r same
      sound_at r p (among k less e) h =
          let (line, at) = nth_some new k less in
          let plain : is_plain line ≡ true = plain_at new k line new_plain at in
          let here : slice_get (whole new) r ≡ Some line = subst (λ i. slice_get (whole new) i ≡ Some line) (sym e) (in_there new k less ∙ at) in
          let all : IsTrue (has_part (before_all out (drop (k + 1) new) after) p) = subst (λ s. IsTrue (has_part s p)) (subst (λ i. get_or table i no_parts ≡ before_all out (drop (k + 1) new) after) (sym e) (inner_set k less)) h in
          live_by (whole new) out r (r + 1) p (plain_onward (whole new) r line here plain) (into (whole new) out (r + 1) (drop (k + 1) new) after p (rest_there k r e) (plain_drop (k + 1) new new_plain) all (λ a. subst (λ i. IsBefore (whole new) out i p) (ends k r less e) (of_rest p a)))
        where
          rest_there : (k r : ℕ) → r ≡ length front + k → AreThere (whole new) (r + 1) (drop (k + 1) new)
          rest_there k r e i h =
              let there : slice_get (whole new) (length front + (k + 1 + i)) ≡ slice_get new (k + 1 + i) = in_there new (k + 1 + i) (omega (arith, h, length-drop (k + 1) new)) in
              ap (slice_get (whole new)) (omega (arith, e)) ∙ (there ∙ sym (nth_drop (k + 1) new i))

          ends : (k r : ℕ) → k < length new → r ≡ length front + k → length front + length new ≡ r + 1 + length (drop (k + 1) new)
          ends k r less e = omega (arith, less, e, length-drop (k + 1) new)

      -- what is live before a place of the new lines, or behind the last of them, is in the sets
      set_before : (k : ℕ) (p : Part) (line : Line) → k ≤ length new → slice_get (whole new) (length front + k) ≡ Some line
          → IsTrue (has_part (line_reads out line) p) ⊎ ((has_part (line_sets line) p ≡ false) × IsTrue (has_part (get_or table (length front + k) no_parts) p))
          → IsTrue (has_part (before_all out (drop k new) after) p)
      set_before k p line less h by = elim (cases_lt k (length new)) as (λ _. IsTrue (has_part (before_all out (drop k new) after) p)) [
        | inl more ↦
            let at : slice_get new k ≡ Some line = sym (in_there new k more) ∙ h in
            let cut : drop k new ≡ line ∷ drop (k + 1) new = drop_at_line new k line at in
            let rest : RegSet = before_all out (drop (k + 1) new) after in
            subst (λ ls. IsTrue (has_part (before_all out ls after) p)) (sym cut) (elim by as (λ _. IsTrue (has_part (before_line out line rest) p)) [
              | inl reads ↦ union_left (line_reads out line) (minus_of rest (line_sets line)) p reads
              | inr on ↦ union_right (line_reads out line) (minus_of rest (line_sets line)) p
                  (minus_in rest (line_sets line) p (subst (λ s. IsTrue (has_part s p)) (inner_set k more) on.1) on.0)
            ])
        | inr end ↦
            let same : length front + k ≡ length front + (length new + 0) = omega (arith, less, end) in
            let start : length front + (length old + 0) ≡ length front + length old = omega arith in
            let there : Same old new (length front + length old) (length front + k) = subst (λ r. Same old new (length front + length old) r) (sym same) (subst (λ q. Same old new q (length front + (length new + 0))) start (past 0)) in
            let here : slice_get (whole old) (length front + length old) ≡ Some line = same_line old new _ _ there ∙ h in
            let was : IsBefore (whole old) out (length front + length old) p = record {
              line = line;
              here = here;
              by = elim by as (λ _. IsTrue (has_part (line_reads out line) p) ⊎ ((has_part (line_sets line) p ≡ false) × IsLive (whole old) out (length front + length old) p)) [
                | inl reads ↦ inl reads
                | inr on ↦ inr (on.0, (exact (length front + length old) p).0 (subst (λ s. IsTrue (has_part s p)) (outer_set _ _ there) on.1))
              ];
            } in
            let none : drop k new ≡ [] = drop_all k new (omega (arith, end)) in
            subst (λ ls. IsTrue (has_part (before_all out ls after) p)) (sym none) (in_after p was)
      ]

      outer_by_next : (q r s : ℕ) (p : Part) (line : Line) → Same old new q r → Next (whole new) r s → slice_get (whole new) s ≡ Some line
          → IsTrue (has_part (line_reads out line) p) ⊎ ((has_part (line_sets line) p ≡ false) × IsTrue (has_part (get_or table s no_parts) p))
          → IsTrue (has_part (get_or table r no_parts) p)
      outer_by_next q r s p line same n h by =
          subst (λ t. IsTrue (has_part t p)) (sym (outer_set q r same)) ((exact q p).1 (elim (leads new old r q s new_plain old_plain (same_back old new q r same) n) as (λ _. IsLive (whole old) out q p) [
            | outside {s = t} there next ↦
                let back : Same old new t s = same_back new old s t there in
                live_by (whole old) out q t p next (record {
                  line = line;
                  here = same_line old new t s back ∙ h;
                  by = elim by as (λ _. IsTrue (has_part (line_reads out line) p) ⊎ ((has_part (line_sets line) p ≡ false) × IsLive (whole old) out t p)) [
                    | inl reads ↦ inl reads
                    | inr on ↦ inr (on.0, (exact t p).0 (subst (λ k. IsTrue (has_part k p)) (outer_set t s back) on.1))
                  ];
                })
            | inside start some next ↦
                let at : s ≡ length front + 0 = start ∙ omega arith in
                let all : IsTrue (has_part (before_all out new after) p) = set_before 0 p line (omega arith) (subst (λ i. slice_get (whole new) i ≡ Some line) at h)
                (subst (λ i. IsTrue (has_part (line_reads out line) p) ⊎ ((has_part (line_sets line) p ≡ false) × IsTrue (has_part (get_or table i no_parts) p))) at by) in
                let was : IsTrue (has_part (before_all out old after) p) = subst (λ t. IsTrue (has_part t p)) (settled some).same all in
                live_by (whole old) out q (length front) p next (into (whole old) out (length front) old after p (in_there old) old_plain was (of_after p))
          ]))

      -- a line of the new ones that has a part live after it by the sets behind
      set_by_next : (r s : ℕ) (p : Part) (line : Line) → Stands new r → Next (whole new) r s → slice_get (whole new) s ≡ Some line
          → IsTrue (has_part (line_reads out line) p) ⊎ ((has_part (line_sets line) p ≡ false) × IsTrue (has_part (get_or table s no_parts) p))
          → IsTrue (has_part (get_or table r no_parts) p)
      set_by_next r s p line (among k less e) n h by =
          let (mine, at) = nth_some new k less in
          let here : slice_get (whole new) r ≡ Some mine = subst (λ i. slice_get (whole new) i ≡ Some mine) (sym e) (in_there new k less ∙ at) in
          let step : s ≡ length front + (k + 1) = plain_next (whole new) r s mine here (plain_at new k mine new_plain at) n ∙ omega (arith, e) in
          let all : IsTrue (has_part (before_all out (drop (k + 1) new) after) p) = set_before (k + 1) p line (omega (arith, less)) (subst (λ i. slice_get (whole new) i ≡ Some line) step h)
          (subst (λ i. IsTrue (has_part (line_reads out line) p) ⊎ ((has_part (line_sets line) p ≡ false) × IsTrue (has_part (get_or table i no_parts) p))) step by) in
          subst (λ t. IsTrue (has_part t p)) (sym (subst (λ i. get_or table i no_parts ≡ before_all out (drop (k + 1) new) after) (sym e) (inner_set k less))) all
      set_by_next r s p line (in_front less) n h by = outer_by_next r r s p line (before less) n h by
      set_by_next r s p line (in_behind j e) n h by =
          outer_by_next (length front + (length old + j)) r s p line (subst (λ i. Same old new (length front + (length old + j)) i) (sym e) (past j)) n h by

      complete : (r : ℕ) (p : Part) → IsLive (whole new) out r p → IsTrue (has_part (get_or table r no_parts) p)
      complete r p (read {r = s} {l = line} n h reads) = set_by_next r s p line (stands new r) n h (inl reads)
      complete r p (kept {r = s} {l = line} n h f i) = set_by_next r s p line (stands new r) n h (inr (f, complete s p i))
      complete r p (left {l = line} h reads) = left_at (stands new r)
        where
          outer_left : (q : ℕ) → Same old new q r → IsTrue (has_part (get_or table r no_parts) p)
          outer_left q same = subst (λ t. IsTrue (has_part t p)) (sym (outer_set q r same)) ((exact q p).1 (left (same_line old new q r same ∙ h) reads))

          left_at : Stands new r → IsTrue (has_part (get_or table r no_parts) p)
          left_at (in_front less) = outer_left r (before less)
          left_at (in_behind j e) = outer_left (length front + (length old + j)) (subst (λ i. Same old new (length front + (length old + j)) i) (sym e) (past j))
          left_at (among k less e) =
              let at : slice_get new k ≡ Some line = sym (in_there new k less) ∙ subst (λ i. slice_get (whole new) i ≡ Some line) e h in
              let none : left_parts out line ≡ no_parts = plain_leaves_nothing out line (plain_parts line (plain_at new k line new_plain at)).0 in
              absurd (in_none p (subst (λ s. IsTrue (has_part s p)) none reads))

      pub is_exact : (r : ℕ) (p : Part) → IsTrue (has_part (get_or table r no_parts) p) ↔ IsLive (whole new) out r p
      is_exact r p = (sound_at r p (stands new r), complete r p)

      pub is_long : length table ≡ length (whole new)
      is_long = let a : length (afters out new after) ≡ length new = afters_long new after in
          omega (
            arith,
            first_long,
            long,
            a,
            length-append (take (length front) live) (afters out new after ++ drop (length front + length old) live),
            length-append (afters out new after) (drop (length front + length old) live),
            length-drop (length front + length old) live,
            length-append front (new ++ behind),
            length-append new behind,
          )
