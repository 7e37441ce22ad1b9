-- The table that is made near the new lines is that of the lines with them.
use Rattle.std.proofs.Common.{◌≡◌, inl, inr, ℕ, zero, suc, ◌+◌, ◌-◌, ◌<◌, ◌≤◌, false, IsTrue, List, [], ◌∷◌, ◌++◌, length, take, drop, get_or, slice_get, refl, sym, ◌∙◌, ap, subst, arith, append_assoc, length-append, length-drop}
use Rattle.std.specs.Prelude.{◌↔◌}
use Rattle.std.proofs.lemmas.Bool.{cases_lt}
use Rattle.std.proofs.lemmas.List.{length-take-le, take-append-drop, take-take, drop-take, drop-drop}
use Rattle.std.proofs.lemmas.Option.{none-some, same_Some, slice_get_past}
use Rattle.c65_code.specs.declared.parts.Part.{Part}
use Rattle.c65_code.specs.declared.parts.RegSet.{RegSet}
use Rattle.c65_code.specs.declared.line.Line.{Line}
use Rattle.c65_code.specs.Parts.{has_part, no_parts, minus_of}
use Rattle.c65_code.specs.Access.{line_reads, line_sets}
use Rattle.c65_code.specs.Segments.{replaced}
use Rattle.c65_live.specs.Live.{onward, goes, IsLive, left, read, kept}
use Rattle.c65_live.specs.Tables.{IsLiveTable}
use Rattle.c65_live.specs.Renewals.{before_line, before_rest, afters, widened, IsSettledBefore, IsEdge, renewed, IsNear}
use Rattle.c65_live.proofs.Sets.{in_none, in_union, in_minus, union_left, union_right, minus_in}
use Rattle.c65_live.proofs.Lists.{nth_drop}
use Rattle.c65_live.proofs.Renewed.{IsBefore, whole, table, is_exact, is_long}

-- in the table exactly what is live, also past its end, where nothing is
pub exact_everywhere : (lines : List Line) (out : RegSet) (live : List RegSet) → IsLiveTable lines out (record { after = live }) → (q : ℕ) (p : Part) → IsTrue (has_part (get_or live q no_parts) p) ↔ IsLive lines out q p
exact_everywhere lines out live t q p = elim (cases_lt q (length lines)) as (λ _. IsTrue (has_part (get_or live q no_parts) p) ↔ IsLive lines out q p) [
  | inl less ↦ t.each q less p
  | inr past ↦ (
    (λ h. absurd (in_none p (subst (λ s. IsTrue (has_part s p)) (past_end live q (omega (arith, t.long, past))) h))),
    (λ i. absurd (not_past lines out q p past i)),
  )
]
  where
    past_end : (sets : List RegSet) (k : ℕ) → length sets ≤ k → get_or sets k no_parts ≡ no_parts
    past_end [] k h = refl
    past_end (s ∷ sets) zero h = absurd (omega (arith, h))
    past_end (s ∷ sets) (suc k) h = past_end sets k (omega (arith, h))

    not_past : (xs : List Line) (o : RegSet) (k : ℕ) (part : Part) → length xs ≤ k → IsLive xs o k part → ⊥
    not_past xs o k part h (left e reads) = none-some _ (sym (slice_get_past xs k h) ∙ e)
    not_past xs o k part h (read (onward e c) there reads) = none-some _ (sym (slice_get_past xs k h) ∙ e)
    not_past xs o k part h (read (goes e t) there reads) = none-some _ (sym (slice_get_past xs k h) ∙ e)
    not_past xs o k part h (kept (onward e c) there f i) = none-some _ (sym (slice_get_past xs k h) ∙ e)
    not_past xs o k part h (kept (goes e t) there f i) = none-some _ (sym (slice_get_past xs k h) ∙ e)

-- what is live before the lines behind, at their place
rest_before : (lines : List Line) (out : RegSet) (live : List RegSet) (n : ℕ) (rest : List Line) → slice_get lines n ≡ slice_get rest 0
    → ((p : Part) → IsTrue (has_part (get_or live n no_parts) p) → IsLive lines out n p) → (p : Part) → IsTrue (has_part (before_rest out rest (get_or live n no_parts)) p) → IsBefore lines out n p
rest_before lines out live n [] here exact p h = absurd (in_none p h)
rest_before lines out live n (line ∷ rest) here exact p h = elim (in_union (line_reads out line) (minus_of (get_or live n no_parts) (line_sets line)) p h) as (λ _. IsBefore lines out n p) [
  | inl reads ↦ record { line = line; here = here; by = inl reads }
  | inr on ↦ let m = in_minus (get_or live n no_parts) (line_sets line) p on in record { line = line; here = here; by = inr (m.1, exact p m.0) }
]

before_in_rest : (lines : List Line) (out : RegSet) (live : List RegSet) (n : ℕ) (rest : List Line) → slice_get lines n ≡ slice_get rest 0
    → ((p : Part) → IsLive lines out n p → IsTrue (has_part (get_or live n no_parts) p)) → (p : Part) → IsBefore lines out n p → IsTrue (has_part (before_rest out rest (get_or live n no_parts)) p)
before_in_rest lines out live n [] here exact p b = absurd (none-some b.line (sym here ∙ b.here))
before_in_rest lines out live n (line ∷ rest) here exact p b =
    let same : b.line ≡ line = same_Some b.line line (sym b.here ∙ here) in
    elim b.by as (λ _. IsTrue (has_part (before_line out line (get_or live n no_parts)) p)) [
      | inl reads ↦ union_left (line_reads out line) (minus_of (get_or live n no_parts) (line_sets line)) p (subst (λ l. IsTrue (has_part (line_reads out l) p)) same reads)
      | inr on ↦ union_right (line_reads out line) (minus_of (get_or live n no_parts) (line_sets line)) p
          (minus_in (get_or live n no_parts) (line_sets line) p (exact p on.1) (subst (λ l. has_part (line_sets l) p ≡ false) same on.0))
    ]

-- the lines from one on up to the place, and those behind
take_split : {A : Type 0} → (xs : List A) (from to : ℕ) → from ≤ to → take to xs ≡ take from xs ++ take (to - from) (drop from xs)
take_split xs from to a =
    let m : to ≡ from + (to - from) = omega (arith, a) in
    let d : drop from (take to xs) ≡ take (to - from) (drop from xs) = ap (λ k. drop from (take k xs)) m ∙ drop-take from (to - from) xs in
    sym (take-append-drop from (take to xs)) ∙ (ap (λ x. x ++ drop from (take to xs)) (take-take from to xs a) ∙ ap (λ x. take from xs ++ x) d)

spread : (lines window post : List Line) (first at : ℕ) → first ≤ at → take first lines ++ (widened lines first at window ++ post) ≡ take at lines ++ (window ++ post)
spread lines window post first at h =
    let near : List Line = take (at - first) (drop first lines) in
    ap (λ x. take first lines ++ x) (append_assoc near window post)
    ∙ (sym (append_assoc (take first lines) near (window ++ post)) ∙ ap (λ x. x ++ (window ++ post)) (sym (take_split lines first at h)))

whole_again : (lines : List Line) (at count : ℕ) → take at lines ++ (take count (drop at lines) ++ drop (at + count) lines) ≡ lines
whole_again lines at count =
    ap (λ x. take at lines ++ (take count (drop at lines) ++ x)) (sym (drop-drop count at lines))
    ∙ (ap (λ x. take at lines ++ x) (take-append-drop count (drop at lines)) ∙ take-append-drop at lines)

get_dropped : (n : ℕ) (sets : List RegSet) → get_or (drop n sets) 0 no_parts ≡ get_or sets n no_parts
get_dropped zero sets = refl
get_dropped (suc n) [] = refl
get_dropped (suc n) (s ∷ sets) = get_dropped n sets

module _ (lines : List Line) (out : RegSet) (live : List RegSet) (at count : ℕ) (new : List Line) (after : RegSet) (first : ℕ) (fits : at + count ≤ length lines)
    (t : IsLiveTable lines out (record { after = live })) (after_is : after ≡ before_rest out (drop (at + count) lines) (get_or (drop (at + count) live) 0 no_parts))
    (edge : IsEdge out lines at count new after first) where
  abbrev front : List Line
  front = take first lines

  abbrev window : List Line
  window = take count (drop at lines)

  abbrev was : List Line
  was = widened lines first at window

  abbrev now : List Line
  now = widened lines first at new

  abbrev behind : List Line
  behind = drop (at + count) lines

  front_long : length front ≡ first
  front_long = length-take-le first lines (omega (arith, fits, edge.before))

  old_is : whole front behind was ≡ lines
  old_is = spread lines window behind first at edge.before ∙ whole_again lines at count

  new_is : whole front behind now ≡ replaced lines at count new
  new_is = spread lines new (drop (at + count) lines) first at edge.before

  end_is : length front + length was ≡ at + count
  end_is =
      let a : length (take (at - first) (drop first lines)) ≡ at - first = length-take-le (at - first) (drop first lines) (omega (arith, length-drop first lines, fits, edge.before)) in
      let b : length (take count (drop at lines)) ≡ count = length-take-le count (drop at lines) (omega (arith, length-drop at lines, fits)) in
      omega (arith, front_long, a, b, length-append (take (at - first) (drop first lines)) (take count (drop at lines)), edge.before)

  after_at : after ≡ before_rest out behind (get_or live (length front + length was) no_parts)
  after_at = after_is ∙ ap (before_rest out (drop (at + count) lines)) (get_dropped (at + count) live ∙ ap (λ k. get_or live k no_parts) (sym end_is))

  exact : (q : ℕ) (p : Part) → IsTrue (has_part (get_or live q no_parts) p) ↔ IsLive (whole front behind was) out q p
  exact q p = subst (λ ls. IsTrue (has_part (get_or live q no_parts) p) ↔ IsLive ls out q p) (sym old_is) (exact_everywhere lines out live t q p)

  at_rest : slice_get (whole front behind was) (length front + length was) ≡ slice_get behind 0
  at_rest = ap (λ ls. slice_get ls (length front + length was)) old_is ∙ (ap (slice_get lines) (end_is ∙ omega arith) ∙ sym (nth_drop (at + count) lines 0))

  of_after : (p : Part) → IsTrue (has_part after p) → IsBefore (whole front behind was) out (length front + length was) p
  of_after p h = rest_before (whole front behind was) out live (length front + length was) behind at_rest (λ part i. (exact (length front + length was) part).0 i) p (subst (λ s. IsTrue (has_part s p)) after_at h)

  in_after : (p : Part) → IsBefore (whole front behind was) out (length front + length was) p → IsTrue (has_part after p)
  in_after p b = subst (λ s. IsTrue (has_part s p)) (sym after_at) (before_in_rest (whole front behind was) out live (length front + length was) behind at_rest (λ part i. (exact (length front + length was) part).1 i) p b)

  settled : 0 < length front → IsSettledBefore out was now after
  settled h = edge.settled (omega (arith, h, front_long))

  long : length live ≡ length front + (length was + length behind)
  long = omega (arith, t.long, end_is, fits, length-drop (at + count) lines)

  table_is : table front behind out was now after edge.old_plain edge.new_plain settled of_after in_after live exact long ≡ renewed out lines live at count new after first
  table_is = ap (λ k. take k live ++ (afters out (widened lines first at new) after ++ drop (length front + length was) live)) front_long
      ∙ ap (λ k. take first live ++ (afters out (widened lines first at new) after ++ drop k live)) end_is

  exact_now : (q : ℕ) (p : Part) → IsTrue (has_part (get_or (renewed out lines live at count new after first) q no_parts) p) ↔ IsLive (replaced lines at count new) out q p
  exact_now q p = subst (λ ls. IsTrue (has_part (get_or (renewed out lines live at count new after first) q no_parts) p) ↔ IsLive ls out q p) new_is
      (subst (λ sets. IsTrue (has_part (get_or sets q no_parts) p) ↔ IsLive (whole front behind now) out q p) table_is
      (is_exact front behind out was now after edge.old_plain edge.new_plain settled of_after in_after live exact long q p))

  long_now : length (renewed out lines live at count new after first) ≡ length (replaced lines at count new)
  long_now = sym (ap length table_is) ∙ (is_long front behind out was now after edge.old_plain edge.new_plain settled of_after in_after live exact long ∙ ap length new_is)

  pub replaced_table : IsLiveTable (replaced lines at count new) out (record { after = renewed out lines live at count new after first })
  replaced_table = record { long = long_now; each = λ q less p. exact_now q p }

pub replaced_by : (lines : List Line) (out : RegSet) (live : List RegSet) (at count : ℕ) (new near : List Line) (after : RegSet) (first : ℕ) (near_sets sets : List RegSet) → at + count ≤ length lines
    → IsLiveTable lines out (record { after = live }) → after ≡ before_rest out (drop (at + count) lines) (get_or (drop (at + count) live) 0 no_parts)
    → IsEdge out lines at count new after first → near ≡ widened lines first at new → near_sets ≡ afters out near after → sets ≡ take first live ++ (near_sets ++ drop (at + count) live)
    → IsLiveTable (replaced lines at count new) out (record { after = sets })
replaced_by lines out live at count new near after first near_sets sets fits t after_is edge near_is sets_are all_is =
    let made : near_sets ≡ afters out (widened lines first at new) after = sets_are ∙ ap (λ ls. afters out ls after) near_is in
    let whole_is : sets ≡ renewed out lines live at count new after first = all_is ∙ ap (λ s. take first live ++ (s ++ drop (at + count) live)) made in
    subst (λ s. IsLiveTable (replaced lines at count new) out (record { after = s })) (sym whole_is) (replaced_table lines out live at count new after first fits t after_is edge)

afters_long : (out : RegSet) (lines : List Line) (after : RegSet) → length (afters out lines after) ≡ length lines
afters_long out [] after = refl
afters_long out (line ∷ lines) after = ap suc (afters_long out lines after)

pub near_by : (lines : List Line) (out : RegSet) (live : List RegSet) (at count : ℕ) (new near : List Line) (after : RegSet) (first : ℕ) (sets : List RegSet) → at + count ≤ length lines
    → IsLiveTable lines out (record { after = live }) → after ≡ before_rest out (drop (at + count) lines) (get_or (drop (at + count) live) 0 no_parts)
    → IsEdge out lines at count new after first → near ≡ widened lines first at new → sets ≡ afters out near after → IsNear lines out live at count new first sets
near_by lines out live at count new near after first sets fits t after_is edge near_is sets_are = record {
  before = edge.before;
  long =
      let a : length sets ≡ length (widened lines first at new) = ap length sets_are ∙ (afters_long out near after ∙ ap length near_is) in
      let b : length (widened lines first at new) ≡ length (take (at - first) (drop first lines)) + length new = length-append (take (at - first) (drop first lines)) new in
      let d : length (take (at - first) (drop first lines)) ≡ at - first = length-take-le (at - first) (drop first lines) (omega (arith, length-drop first lines, fits, edge.before)) in
      omega (arith, a, b, d);
  table = replaced_by lines out live at count new near after first sets (take first live ++ (sets ++ drop (at + count) live)) fits t after_is edge near_is sets_are refl;
}
