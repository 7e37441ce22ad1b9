-- The table of what is live is closed.
use Rattle.std.proofs.Common.{◌≡◌, ℕ, zero, suc, ◌+◌, ◌<◌, ◌≤◌, Bool, true, false, ◌&&◌, ◌||◌, not, ◌⊎◌, inl, inr, Option, Some, None, List, [], ◌∷◌, length, refl, sym, subst, ap, ◌∙◌, arith}
use Rattle.std.specs.Prelude.{slice_get}
use Rattle.c65_code.proofs.PartLaws.{has_part-union, has_part-minus, has_part-empty}
use Rattle.c65_code.specs.declared.line.Line.{Line}
use Rattle.c65_code.specs.declared.line.Line.TheVariants.{Label, Do, Call}
use Rattle.c65_code.specs.declared.parts.Part.{Part}
use Rattle.c65_code.specs.declared.parts.RegSet.{RegSet}
use Rattle.c65_code.specs.Access.{line_reads, line_sets}
use Rattle.c65_code.specs.Moves.{settle}
use Rattle.c65_code.specs.Parts.{has_part, no_parts, minus_of, IsWithin}
use Rattle.c65_live.specs.Live.{Next, onward, goes, IsLive, left, read, kept}
use Rattle.c65_live.specs.Tables.{Table, IsLiveTable, live_after}
use Rattle.c65_opt_law_near.specs.Near.{before}
use Rattle.c65_opt_law_table.specs.Laws.{LiveTablesAreClosed}

no_line : (l : Line) → None ≡ Some l → ⊥
no_line l e = cc

same_line : (k l : Line) → Some k ≡ Some l → k ≡ l
same_line k l e = cc

inside : (lines : List Line) (q : ℕ) (l : Line) → slice_get lines q ≡ Some l → q < length lines
inside [] q l e = absurd (no_line l e)
inside (line ∷ lines) zero l e = omega arith
inside (line ∷ lines) (suc q) l e = let more : q < length lines = inside lines q l e in omega arith

next_line : (lines : List Line) (q r : ℕ) → Next lines q r → q < length lines
next_line lines q r (onward {l = l} e c) = inside lines q l e
next_line lines q r (goes {l = l} e t) = inside lines q l e

-- what is live before a line is read by it, or live after it and not set
either : (out : RegSet) (line : Line) (after : RegSet) (p : Part) → has_part (before out line after) p ≡ true → (has_part (line_reads out line) p ≡ true) ⊎ ((has_part after p ≡ true) × (has_part (line_sets line) p ≡ false))
either out line after p h =
    pick (has_part (line_reads out line) p) (has_part after p) (has_part (line_sets line) p)
    (ap (λ (b : Bool). has_part (line_reads out line) p || b) (sym (has_part-minus after (line_sets line) p)) ∙ (sym (has_part-union (line_reads out line) (minus_of after (line_sets line)) p) ∙ h))
  where
    pick : (a b c : Bool) → (a || (b && not c)) ≡ true → (a ≡ true) ⊎ ((b ≡ true) × (c ≡ false))
    pick true b c h = inl refl
    pick false true false h = inr (refl, refl)
    pick false true true h = absurd (cc)
    pick false false c h = absurd (cc)

settle_line : (lines : List Line) (r : ℕ) (l : Line) → slice_get lines r ≡ Some l → ((k : ℕ) → l ≡ Label k → ⊥) → settle lines r ≡ r
settle_line [] r l e not_label = absurd (no_line l e)
settle_line (Label k ∷ lines) zero l e not_label = absurd (not_label k (sym (same_line (Label k) l e)))
settle_line (Do op mode operand ∷ lines) zero l e not_label = refl
settle_line (Call callee ∷ lines) zero l e not_label = refl
settle_line (Label k ∷ lines) (suc r) l e not_label = ap suc (settle_line lines r l e not_label)
settle_line (Do op mode operand ∷ lines) (suc r) l e not_label = ap suc (settle_line lines r l e not_label)
settle_line (Call callee ∷ lines) (suc r) l e not_label = ap suc (settle_line lines r l e not_label)

settle_label : (lines : List Line) (r k : ℕ) → slice_get lines r ≡ Some (Label k) → settle lines r ≡ settle lines (suc r)
settle_label [] r k e = absurd (no_line (Label k) e)
settle_label (Label j ∷ lines) zero k e = refl
settle_label (Do op mode operand ∷ lines) zero k e = absurd (cc)
settle_label (Call callee ∷ lines) zero k e = absurd (cc)
settle_label (Label j ∷ lines) (suc r) k e = ap suc (settle_label lines r k e)
settle_label (Do op mode operand ∷ lines) (suc r) k e = ap suc (settle_label lines r k e)
settle_label (Call callee ∷ lines) (suc r) k e = ap suc (settle_label lines r k e)

settle_past : (lines : List Line) (r : ℕ) → length lines ≤ r → settle lines r ≡ r
settle_past [] r h = refl
settle_past (line ∷ lines) zero h = absurd (omega arith)
settle_past (Label k ∷ lines) (suc r) h = ap suc (settle_past lines r (omega arith))
settle_past (Do op mode operand ∷ lines) (suc r) h = ap suc (settle_past lines r (omega arith))
settle_past (Call callee ∷ lines) (suc r) h = ap suc (settle_past lines r (omega arith))

-- behind the end no line stands
nothing_there : (lines : List Line) (r : ℕ) (l : Line) → slice_get lines r ≡ None → slice_get lines (settle lines r) ≡ Some l → ⊥
nothing_there [] r l e f = no_line l f
nothing_there (line ∷ lines) zero l e f = no_line line (sym e)
nothing_there (Label k ∷ lines) (suc r) l e f = nothing_there lines r l e f
nothing_there (Do op mode operand ∷ lines) (suc r) l e f = nothing_there lines r l e f
nothing_there (Call callee ∷ lines) (suc r) l e f = nothing_there lines r l e f

module _ (lines : List Line) (out : RegSet) (table : Table) (is : IsLiveTable lines out table) where
  live : (q r : ℕ) (l : Line) → Next lines q r → slice_get lines r ≡ Some l → IsWithin (before out l (live_after table r)) (live_after table q)
  live q r l next e p h = (is.each q (next_line lines q r next) p).1 (pick (either out l (live_after table r) p h))
    where
      pick : (has_part (line_reads out l) p ≡ true) ⊎ ((has_part (live_after table r) p ≡ true) × (has_part (line_sets l) p ≡ false)) → IsLive lines out q p
      pick (inl k) = read next e k
      pick (inr k) = kept next e k.1 ((is.each r (inside lines r l e) p).0 k.0)

  label_before : (k : ℕ) (after : RegSet) (p : Part) → has_part after p ≡ true → has_part (before out (Label k) after) p ≡ true
  label_before k after p h = has_part-union no_parts (minus_of after no_parts) p ∙ (ap (λ (b : Bool). has_part no_parts p || b) (has_part-minus after no_parts p) ∙ plain (has_part no_parts p) (has_part after p) (has_part-empty p) h)
    where
      plain : (a b : Bool) → a ≡ false → b ≡ true → (a || (b && not a)) ≡ true
      plain false true e h = refl
      plain true b e h = absurd (cc)
      plain false false e h = absurd (cc)

  -- labels are passed
  through : (fuel r q : ℕ) (l : Line) → length lines ≤ r + fuel → Next lines q r → slice_get lines (settle lines r) ≡ Some l → IsWithin (before out l (live_after table (settle lines r))) (live_after table q)
  through zero r q l long next e =
      let past : settle lines r ≡ r = settle_past lines r (omega arith) in
      let below : settle lines r < length lines = inside lines (settle lines r) l e in
      absurd (omega arith)
  through (suc fuel) r q l long next e = at (slice_get lines r) refl (λ k. through fuel (r + 1) r l (omega arith) k)
    where
      later : (k : ℕ) → slice_get lines r ≡ Some (Label k)
          → (Next lines r (r + 1) → slice_get lines (settle lines (r + 1)) ≡ Some l → IsWithin (before out l (live_after table (settle lines (r + 1)))) (live_after table r))
          → IsWithin (before out l (live_after table (settle lines r))) (live_after table q)
      later k here more p h =
          let up : suc r ≡ r + 1 = omega arith in
          let same : settle lines r ≡ settle lines (r + 1) = settle_label lines r k here ∙ ap (settle lines) up in
          let behind : has_part (live_after table r) p ≡ true =
          more (onward here refl) (subst (λ (x : ℕ). slice_get lines x ≡ Some l) same e) p (subst (λ (x : ℕ). has_part (before out l (live_after table x)) p ≡ true) same h) in
          live q r (Label k) next here p (label_before k (live_after table r) p behind)

      here_is : (line : Line) → slice_get lines r ≡ Some line → ((k : ℕ) → line ≡ Label k → ⊥) → IsWithin (before out l (live_after table (settle lines r))) (live_after table q)
      here_is line here not_label =
          let same : settle lines r ≡ r = settle_line lines r line here not_label in
          subst (λ (x : ℕ). IsWithin (before out l (live_after table x)) (live_after table q)) (sym same) (live q r l next (subst (λ (x : ℕ). slice_get lines x ≡ Some l) same e))

      at : (o : Option Line) → slice_get lines r ≡ o
          → (Next lines r (r + 1) → slice_get lines (settle lines (r + 1)) ≡ Some l → IsWithin (before out l (live_after table (settle lines (r + 1)))) (live_after table r))
          → IsWithin (before out l (live_after table (settle lines r))) (live_after table q)
      at (Some (Label k)) here more = later k here more
      at (Some (Do op mode operand)) here more = here_is (Do op mode operand) here (λ k f. absurd (cc))
      at (Some (Call callee)) here more = here_is (Call callee) here (λ k f. absurd (cc))
      at None here more = absurd (nothing_there lines r l here e)

pub live_tables_are_closed : LiveTablesAreClosed
live_tables_are_closed lines out table is = record {
  next = live lines out table is;
  settled = λ q r l next e. through lines out table is (length lines) r q l (omega arith) next e;
  left = λ q l e p h. (is.each q (inside lines q l e) p).1 (left e h);
}
