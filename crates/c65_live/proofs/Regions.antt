-- Where a region of the new lines is swept and the sets outside of it stay, the table is that of the new lines.
use Rattle.std.proofs.Common.{◌≡◌, inl, inr, ℕ, ◌+◌, ◌-◌, ◌<◌, ◌≤◌, IsTrue, List, [], ◌∷◌, ◌++◌, Option, Some, length, take, drop, replicate, get_or, slice_get, sym, ◌∙◌, ap, subst, refl, arith, length-append, length-drop}
use Rattle.std.specs.Prelude.{◌↔◌}
use Rattle.std.proofs.lemmas.Bool.{cases_lt}
use Rattle.std.proofs.lemmas.List.{length-take-le, length-replicate}
use Rattle.c65_code.specs.declared.parts.Part.{Part}
use Rattle.c65_code.specs.declared.parts.RegSet.{RegSet}
use Rattle.c65_code.specs.declared.line.Line.{Line}
use Rattle.c65_code.specs.Parts.{has_part, no_parts}
use Rattle.c65_code.specs.Segments.{IsSegment, replaced, target_of}
use Rattle.c65_code.specs.Moves.{labelled}
use Rattle.c65_live.specs.Live.{Next, onward, goes, IsLive, left, read, kept}
use Rattle.c65_live.specs.Flows.{flows_of, joined_at}
use Rattle.c65_live.specs.Sweeps.{AreSound}
use Rattle.c65_live.specs.Tables.{IsLiveTable}
use Rattle.c65_live.proofs.Sets.{in_none}
use Rattle.c65_live.proofs.Closed.{left_in, read_in, kept_in}
use Rattle.c65_live.proofs.Replacing.{exact_everywhere}
use Rattle.c65_live.specs.Regions.{places_of, IsBarred, Stays, before, past, same, AreSame, IsSwept, AreBehind}
use Rattle.c65_live.proofs.Lists.{nth_left, nth_right, nth_take, nth_drop, get_left, get_right, get_take, get_drop, get_blank}
use Rattle.c65_live.proofs.Places.{label_once, label_there, target_among, place_is}
use Rattle.c65_live.proofs.Follows.{Follows, ArePairs, live_on}

module _ (lines new : List Line) (out : RegSet) (at count : ℕ) (fits : at + count ≤ length lines) (was : IsSegment lines) (is : IsSegment (replaced lines at count new)) where
  abbrev now : List Line
  now = replaced lines at count new

  abbrev Kept : ℕ → ℕ → Type 0
  Kept q r = Stays at count (length new) q r

  kept_line : (q r : ℕ) → Kept q r → slice_get lines q ≡ slice_get now r
  kept_line _ _ (before {q = q} h) =
      let long : length (take at lines) ≡ at = length-take-le at lines (omega (arith, fits)) in
      sym (nth_left (take at lines) (new ++ drop (at + count) lines) q (omega (arith, h, long)) ∙ nth_take at lines q h)
  kept_line _ _ (past j) =
      let long : length (take at lines) ≡ at = length-take-le at lines (omega (arith, fits)) in
      let place : at + length new + j ≡ length (take at lines) + (length new + j) = omega (arith, long) in
      sym (ap (slice_get now) place ∙ (nth_right (take at lines) (new ++ drop (at + count) lines) (length new + j) ∙ (nth_right new (drop (at + count) lines) j ∙ nth_drop (at + count) lines j)))

  -- where a line behind the new ones stood
  abbrev old_of : ℕ → ℕ
  old_of r = at + count + (r - (at + length new))

  behind_kept : (r : ℕ) → at + length new ≤ r → Kept (old_of r) r
  behind_kept r h = let e : at + length new + (r - (at + length new)) ≡ r = omega (arith, h) in subst (λ i. Kept (old_of r) i) e (past (r - (at + length new)))

  next_kept : (q r : ℕ) → Kept q r → at + length new ≤ r → Kept (q + 1) (r + 1)
  next_kept _ _ (before h) k = absurd (omega (arith, h, k))
  next_kept _ _ (past j) k =
      let one : at + count + (j + 1) ≡ at + count + j + 1 = omega arith in
      let two : at + length new + (j + 1) ≡ at + length new + j + 1 = omega arith in
      subst (λ i. Kept i (at + length new + j + 1)) one (subst (λ i. Kept (at + count + (j + 1)) i) two (past (j + 1)))

  -- a label that stays stood where it did
  label_kept : (r l s : ℕ) (line : Line) → slice_get now r ≡ Some line → target_of line ≡ l ∷ [] → Kept s (labelled now l) → labelled lines l ≡ s
  label_kept r l s line e t k = label_once lines s l was.labels (kept_line s (labelled now l) k ∙ label_there now l (target_among now now r l line is.targets e t))

  module _ (old : List RegSet) (table : IsLiveTable lines out (record { after = old })) (end : ℕ) (wide : at + length new ≤ end) (barred : IsBarred (places_of now) end) where
    exact_old : (q : ℕ) (p : Part) → IsTrue (has_part (get_or old q no_parts) p) ↔ IsLive lines out q p
    exact_old q p = exact_everywhere lines out old table q p

    -- behind the region the same is live as before
    abbrev Behind : ℕ → ℕ → Type 0
    Behind q r = Kept q r × (end ≤ r)

    behind_next : (q r : ℕ) → Behind q r → Behind (q + 1) (r + 1)
    behind_next q r h = (next_kept q r h.0 (omega (arith, wide, h.1)), omega (arith, h.1))

    behind_label : (q r l : ℕ) (line : Line) → Behind q r → slice_get now r ≡ Some line → target_of line ≡ l ∷ [] → Behind (labelled lines l) (labelled now l)
    behind_label q r l line h e t =
        let far : end ≤ labelled now l = barred r (labelled now l) h.1 (place_is now r l line e t) in
        let k : Kept (old_of (labelled now l)) (labelled now l) = behind_kept (labelled now l) (omega (arith, far, wide)) in
        (subst (λ i. Kept i (labelled now l)) (sym (label_kept r l (old_of (labelled now l)) line e t k)) k, far)

    to_new : ArePairs lines now out Behind
    to_new = record {
      line = λ q r h. kept_line q r h.0;
      on = λ q r h. let n = behind_next q r h in record { line = kept_line (q + 1) (r + 1) n.0; after = inl n };
      to = λ q r l line h e t. let n = behind_label q r l line h (sym (kept_line q r h.0) ∙ e) t in record { line = kept_line (labelled lines l) (labelled now l) n.0; after = inl n };
    }

    to_old : ArePairs now lines out (λ r q. Behind q r)
    to_old = record {
      line = λ r q h. sym (kept_line q r h.0);
      on = λ r q h. let n = behind_next q r h in record { line = sym (kept_line (q + 1) (r + 1) n.0); after = inl n };
      to = λ r q l line h e t. let n = behind_label q r l line h e t in record { line = sym (kept_line (labelled lines l) (labelled now l) n.0); after = inl n };
    }

    pub start_sound : (live : List RegSet) → live ≡ replicate end no_parts ++ drop (end - length new + count) old → AreSound now out live
    start_sound live e r p h = elim (cases_lt r end) as (λ _. IsLive now out r p) [
      | inl less ↦
          let blank : get_or (replicate end no_parts ++ drop (end - length new + count) old) r no_parts ≡ no_parts =
          get_left (replicate end no_parts) (drop (end - length new + count) old) r (omega (arith, less, length-replicate end no_parts)) ∙ get_blank end r in
          absurd (in_none p (subst (λ s. IsTrue (has_part s p)) (ap (λ sets. get_or sets r no_parts) e ∙ blank) h))
      | inr far ↦
          let long : length (replicate end no_parts) ≡ end = length-replicate end no_parts in
          let place : end - length new + count + (r - length (replicate end no_parts)) ≡ old_of r = omega (arith, far, wide, long) in
          let rest : get_or (replicate end no_parts ++ drop (end - length new + count) old) r no_parts ≡ get_or old (old_of r) no_parts =
          get_right (replicate end no_parts) (drop (end - length new + count) old) r (omega (arith, far, long))
          ∙ (get_drop (end - length new + count) old (r - length (replicate end no_parts)) ∙ ap (λ i. get_or old i no_parts) place) in
          let k : Behind (old_of r) r = (behind_kept r (omega (arith, far, wide)), far) in
          live_on lines now out Behind to_new (old_of r) r p k ((exact_old (old_of r) p).0 (subst (λ s. IsTrue (has_part s p)) (ap (λ sets. get_or sets r no_parts) e ∙ rest) h))
    ]

    pub start_behind : (live : List RegSet) → live ≡ replicate end no_parts ++ drop (end - length new + count) old → AreBehind at count (length new) old live end
    start_behind live e j far =
        let long : length (replicate end no_parts) ≡ end = length-replicate end no_parts in
        let place : end - length new + count + (at + length new + j - length (replicate end no_parts)) ≡ at + count + j = omega (arith, far, wide, long) in
        ap (λ sets. get_or sets (at + length new + j) no_parts) e
        ∙ (get_right (replicate end no_parts) (drop (end - length new + count) old) (at + length new + j) (omega (arith, far, long))
        ∙ (get_drop (end - length new + count) old (at + length new + j - length (replicate end no_parts)) ∙ ap (λ i. get_or old i no_parts) place))

    module _ (first : ℕ) (low : first ≤ at - 1) (kept_low : IsBarred (places_of now) first) (live : List RegSet) (behind : AreBehind at count (length new) old live end)
        (swept : IsSwept now out live first end) (are_same : AreSame at count (length new) old live (places_of now) first) where
      set_behind : (r : ℕ) → end ≤ r → get_or live r no_parts ≡ get_or old (old_of r) no_parts
      set_behind r far =
          let e : at + length new + (r - (at + length new)) ≡ r = omega (arith, far, wide) in
          subst (λ i. get_or live i no_parts ≡ get_or old (old_of r) no_parts) e (behind (r - (at + length new)) (omega (arith, far, wide)))

      full_behind : (r : ℕ) (p : Part) → end ≤ r → IsLive now out r p → IsTrue (has_part (get_or live r no_parts) p)
      full_behind r p far i =
          let k : Behind (old_of r) r = (behind_kept r (omega (arith, far, wide)), far) in
          subst (λ s. IsTrue (has_part s p)) (sym (set_behind r far)) ((exact_old (old_of r) p).1 (live_on now lines out (λ r q. Behind q r) to_old r (old_of r) p k i))

      -- from the first line of the region on the sets have all that is live
      full_at : (r : ℕ) (p : Part) → first ≤ r → (joined_at (flows_of now out) live r ≡ get_or live r no_parts → IsTrue (has_part (get_or live r no_parts) p)) → IsLive now out r p → IsTrue (has_part (get_or live r no_parts) p)
      full_at r p far closed i = elim (cases_lt r end) as (λ _. IsTrue (has_part (get_or live r no_parts) p)) [ inl less ↦ closed (swept.closed r far less) | inr beyond ↦ full_behind r p beyond i ]

      stays_low : (r s : ℕ) → first ≤ r → Next now r s → first ≤ s
      stays_low r _ far (onward e c) = omega (arith, far)
      stays_low r _ far (goes {label = label} {l = line} e t) = kept_low r (labelled now label) far (place_is now r label line e t)

      full : (r : ℕ) (p : Part) → first ≤ r → IsLive now out r p → IsTrue (has_part (get_or live r no_parts) p)
      full r p far (left {l = l} e h) = full_at r p far (λ c. left_in now out live r p l c e h) (left e h)
      full r p far (read {r = s} {l = l} n e h) = full_at r p far (λ c. read_in now out live r s p l c n e h) (read n e h)
      full r p far (kept {r = s} {l = l} n e f i) = full_at r p far (λ c. kept_in now out live r s p l c n e f (full s p (stays_low r s far n) i)) (kept n e f i)

      -- before the region the same is live as before
      abbrev Front : ℕ → ℕ → Type 0
      Front q r = (q ≡ r) × (r < first)

      data Lands (q r : ℕ) : Type 0 where
        front : Front q r → Lands q r
        over : Kept q r → get_or live r no_parts ≡ get_or old q no_parts → first ≤ r → Lands q r

      front_kept : (q r : ℕ) → Front q r → Kept q r
      front_kept q r h = let less : q < at = omega (arith, h.0, h.1, low) in subst (λ i. Kept q i) h.0 (before less)

      only_before : (q r : ℕ) → Kept q r → r < at → q ≡ r
      only_before _ _ (before h) less = refl
      only_before _ _ (past j) less = absurd (omega (arith, less))

      front_next : (q r : ℕ) → Front q r → Lands (q + 1) (r + 1)
      front_next q r h = elim (cases_lt (r + 1) first) as (λ _. Lands (q + 1) (r + 1)) [
        | inl more ↦ front (ap (λ i. i + 1) h.0, more)
        | inr last ↦
            let border : first ≡ r + 1 = omega (arith, h.1, last) in
            elim are_same.next as (λ _. Lands (q + 1) (r + 1)) [
              | inl none ↦ absurd (omega (arith, none, h.1))
              | inr stays ↦ elim stays as (λ _. Lands (q + 1) (r + 1)) [
                | same {q = s} k e ↦
                    let here : s ≡ q + 1 = only_before s first k (omega (arith, low, h.1)) ∙ (border ∙ ap (λ i. i + 1) (sym h.0)) in
                    subst (λ i. Lands i (r + 1)) here (subst (λ i. Lands s i) border (over k e (omega arith)))
              ]
            ]
      ]

      front_label : (q r l : ℕ) (line : Line) → Front q r → slice_get now r ≡ Some line → target_of line ≡ l ∷ [] → Lands (labelled lines l) (labelled now l)
      front_label q r l line h e t = elim (cases_lt (labelled now l) first) as (λ _. Lands (labelled lines l) (labelled now l)) [
        | inl less ↦
            let k : Kept (labelled now l) (labelled now l) = before (omega (arith, less, low)) in
            front (label_kept r l (labelled now l) line e t k, less)
        | inr far ↦ elim (are_same.jumps r (labelled now l) h.1 (place_is now r l line e t) far) as (λ _. Lands (labelled lines l) (labelled now l)) [
          | same {q = s} k same_set ↦ subst (λ i. Lands i (labelled now l)) (sym (label_kept r l s line e t k)) (over k same_set far)
        ]
      ]

      lands_new : (q r : ℕ) → Lands q r → Follows lines now out Front q r
      lands_new q r (front h) = record { line = kept_line q r (front_kept q r h); after = inl h }
      lands_new q r (over k e far) = record { line = kept_line q r k; after = inr (λ p i. swept.sound r p (subst (λ s. IsTrue (has_part s p)) (sym e) ((exact_old q p).1 i))) }

      lands_old : (q r : ℕ) → Lands q r → Follows now lines out (λ r q. Front q r) r q
      lands_old q r (front h) = record { line = sym (kept_line q r (front_kept q r h)); after = inl h }
      lands_old q r (over k e far) = record { line = sym (kept_line q r k); after = inr (λ p i. (exact_old q p).0 (subst (λ s. IsTrue (has_part s p)) e (full r p far i))) }

      front_to_new : ArePairs lines now out Front
      front_to_new = record {
        line = λ q r h. kept_line q r (front_kept q r h);
        on = λ q r h. lands_new (q + 1) (r + 1) (front_next q r h);
        to = λ q r l line h e t. lands_new (labelled lines l) (labelled now l) (front_label q r l line h (sym (kept_line q r (front_kept q r h)) ∙ e) t);
      }

      front_to_old : ArePairs now lines out (λ r q. Front q r)
      front_to_old = record {
        line = λ r q h. sym (kept_line q r (front_kept q r h));
        on = λ r q h. lands_old (q + 1) (r + 1) (front_next q r h);
        to = λ r q l line h e t. lands_old (labelled lines l) (labelled now l) (front_label q r l line h e t);
      }

      first_long : length (take first old) ≡ first
      first_long = length-take-le first old (omega (arith, low, fits, table.long))

      exact_now : (r : ℕ) (p : Part) → IsTrue (has_part (get_or (take first old ++ drop first live) r no_parts) p) ↔ IsLive now out r p
      exact_now r p = elim (cases_lt r first) as (λ _. IsTrue (has_part (get_or (take first old ++ drop first live) r no_parts) p) ↔ IsLive now out r p) [
        | inl less ↦
            let set : get_or (take first old ++ drop first live) r no_parts ≡ get_or old r no_parts =
            get_left (take first old) (drop first live) r (omega (arith, less, first_long)) ∙ get_take first old r less in (
              (λ h. live_on lines now out Front front_to_new r r p (refl, less) ((exact_old r p).0 (subst (λ s. IsTrue (has_part s p)) set h))),
              (λ i. subst (λ s. IsTrue (has_part s p)) (sym set) ((exact_old r p).1 (live_on now lines out (λ r q. Front q r) front_to_old r r p (refl, less) i))),
            )
        | inr far ↦
            let place : first + (r - length (take first old)) ≡ r = omega (arith, far, first_long) in
            let set : get_or (take first old ++ drop first live) r no_parts ≡ get_or live r no_parts =
            get_right (take first old) (drop first live) r (omega (arith, far, first_long)) ∙ (get_drop first live (r - length (take first old)) ∙ ap (λ i. get_or live i no_parts) place) in (
              (λ h. swept.sound r p (subst (λ s. IsTrue (has_part s p)) set h)),
              (λ i. subst (λ s. IsTrue (has_part s p)) (sym set) (full r p far i)),
            )
      ]

      now_long : at ≤ length now
      now_long =
          let a : length (take at lines) ≡ at = length-take-le at lines (omega (arith, fits)) in
          omega (arith, a, length-append (take at lines) (new ++ drop (at + count) lines))

      pub region_table : IsLiveTable now out (record { after = take first old ++ drop first live })
      region_table = record {
        long = omega (arith, first_long, swept.long, now_long, low, length-append (take first old) (drop first live), length-drop first live);
        each = λ r less p. exact_now r p;
      }

-- the same by what is made on the way: the new lines, the places to which they lead, and the sets from which the sweeps begin
module _ (lines now new : List Line) (out : RegSet) (at count many end : ℕ) (old start : List RegSet) (places : List (Option ℕ)) (fits : at + count ≤ length lines) (was : IsSegment lines) (is : IsSegment now)
    (now_is : now ≡ replaced lines at count new) (many_is : many ≡ length new) (table : IsLiveTable lines out (record { after = old })) (wide : at + many ≤ end) (barred : IsBarred places end)
    (places_is : places ≡ places_of now) (start_is : start ≡ replicate end no_parts ++ drop (end - many + count) old) where
  new_segment : IsSegment (replaced lines at count new)
  new_segment = subst IsSegment now_is is

  new_wide : at + length new ≤ end
  new_wide = omega (arith, wide, many_is)

  new_places : places ≡ places_of (replaced lines at count new)
  new_places = places_is ∙ ap places_of now_is

  new_barred : (line : ℕ) → IsBarred places line → IsBarred (places_of (replaced lines at count new)) line
  new_barred line b = subst (λ ps. IsBarred ps line) new_places b

  new_start : start ≡ replicate end no_parts ++ drop (end - length new + count) old
  new_start = start_is ∙ ap (λ k. replicate end no_parts ++ drop (end - k + count) old) many_is

  pub begins_sound : AreSound now out start
  begins_sound = subst (λ ls. AreSound ls out start) (sym now_is) (start_sound lines new out at count fits was new_segment old table end new_wide (new_barred end barred) start new_start)

  pub renewed_by : (first : ℕ) (live sets : List RegSet) → first ≤ at - 1 → IsBarred places first → ((q : ℕ) → end ≤ q → get_or live q no_parts ≡ get_or start q no_parts) → IsSwept now out live first end
      → AreSame at count many old live places first → sets ≡ take first old ++ drop first live → IsLiveTable now out (record { after = sets })
  renewed_by first live sets low kept_low behind swept are_same sets_are =
      let begun : AreBehind at count (length new) old start end = start_behind lines new out at count fits was new_segment old table end new_wide (new_barred end barred) start new_start in
      let stays : AreBehind at count (length new) old live end = λ j far. behind (at + length new + j) far ∙ begun j far in
      let same_now : AreSame at count (length new) old live (places_of (replaced lines at count new)) first =
      subst (λ ps. AreSame at count (length new) old live ps first) new_places (subst (λ k. AreSame at count k old live places first) many_is are_same) in
      let all : IsLiveTable (replaced lines at count new) out (record { after = take first old ++ drop first live }) =
      region_table lines new out at count fits was new_segment old table end new_wide (new_barred end barred) first low (new_barred first kept_low) live stays (subst (λ ls. IsSwept ls out live first end) now_is swept) same_now in
      subst (λ ls. IsLiveTable ls out (record { after = sets })) (sym now_is) (subst (λ s. IsLiveTable (replaced lines at count new) out (record { after = s })) (sym sets_are) all)

pub replaced_long : (lines now new : List Line) (at count many : ℕ) → at + count ≤ length lines → now ≡ replaced lines at count new → many ≡ length new → length now ≡ length lines - count + many
replaced_long lines now new at count many fits now_is many_is =
    let a : length (take at lines) ≡ at = length-take-le at lines (omega (arith, fits)) in
    ap length now_is ∙ omega (arith, a, fits, many_is, length-append (take at lines) (new ++ drop (at + count) lines), length-append new (drop (at + count) lines), length-drop (at + count) lines)
