-- Rows of the library's functions over texts, from near states.
use Rattle.std.proofs.Common.{◌≡◌, ℕ, zero, suc, ◌<◌, ◌≤◌, ◌+◌, ◌==◌, Bool, true, false, if◌then◌else◌, ◌⊎◌, inl, inr, List, [], ◌∷◌, ◌++◌, All, max, refl, sym, subst, ap, ◌∙◌, arith}
use Rattle.std.proofs.lemmas.Bool.{cases_eq}
use Rattle.std.proofs.lemmas.List.Elements.{All-head, All-tail}
use Rattle.c65_base.specs.declared.library.Library.TheVariants.{Puts, Strlen}
use Rattle.c65_code.specs.declared.parts.Part.{Part}
use Rattle.c65_code.specs.declared.parts.Part.TheVariants.{A, X}
use Rattle.c65_code.specs.declared.parts.RegSet.{RegSet}
use Rattle.c65_code.specs.declared.routine.Routine.{Routine}
use Rattle.c65_code.specs.declared.routine.Routine.TheVariants as routines
use Rattle.c65_code.specs.declared.routine.Width.TheVariants.{Ax}
use Rattle.c65_code.specs.Effects.{routine_reads}
use Rattle.c65_code.specs.LineState.{Bytes, State, sp_of, ax_of, Same}
use Rattle.c65_code.specs.Parts.{has_part}
use Rattle.c65_code.specs.Placement.{Placement}
use Rattle.c65_code.specs.Rows.{Row, row_by, giving, costing, far_reading, by_bytes, row_of}
use Rattle.c65_code.specs.Steady.{IsOpen, RowHasRoom}
use Rattle.c65_code.specs.Texts.{bytes_at, range_of, length_within, text_length}
use Rattle.c65_opt_law_near.specs.Laws.{IsLow}
use Rattle.c65_opt_law_near.specs.Near.{Near}
use Rattle.c65_opt_law_rows.proofs.Rows.{AlikeIf, equal_alike, plain_row, open_one, ax_same}

-- a length that is found in equal bytes is one
length_same : (fuel at : ℕ) (m k : Bytes) → ((b : ℕ) → at ≤ b → b < at + (length_within fuel at m + 1) → m b ≡ k b) → length_within fuel at m ≡ length_within fuel at k
length_same zero at m k h = refl
length_same (suc fuel) at m k h = pick (m at == 0) refl h (length_same fuel (at + 1) m k)
  where
    pick : (c : Bool) → (m at == 0) ≡ c → ((b : ℕ) → at ≤ b → b < at + ((if c then 0 else suc (length_within fuel (at + 1) m)) + 1) → m b ≡ k b)
        → (((b : ℕ) → at + 1 ≤ b → b < at + 1 + (length_within fuel (at + 1) m + 1) → m b ≡ k b) → length_within fuel (at + 1) m ≡ length_within fuel (at + 1) k)
        → (if c then 0 else suc (length_within fuel (at + 1) m)) ≡ (if k at == 0 then 0 else suc (length_within fuel (at + 1) k))
    pick true e h later =
        let first : m at ≡ k at = h at (omega arith) (omega arith) in
        let end : (k at == 0) ≡ true = sym (ap (λ (v : ℕ). v == 0) first) ∙ e in
        sym (ap (λ (b : Bool). if b then 0 else suc (length_within fuel (at + 1) k)) end)
    pick false e h later =
        let first : m at ≡ k at = h at (omega arith) (omega arith) in
        let more : (k at == 0) ≡ false = sym (ap (λ (v : ℕ). v == 0) first) ∙ e in
        ap suc (later (λ b low high. h b (omega arith) (omega arith))) ∙ sym (ap (λ (b : Bool). if b then 0 else suc (length_within fuel (at + 1) k)) more)

pub bytes_same : (count at : ℕ) (m k : Bytes) → ((b : ℕ) → at ≤ b → b < at + count → m b ≡ k b) → bytes_at count at m ≡ bytes_at count at k
bytes_same zero at m k h = refl
bytes_same (suc count) at m k h =
    ap (λ (v : ℕ). v ∷ bytes_at count (at + 1) m) (h at (omega arith) (omega arith)) ∙ ap (λ (vs : List ℕ). k at ∷ vs) (bytes_same count (at + 1) m k (λ b low high. h b (omega arith) (omega arith)))

pub text_same : (at : ℕ) (m k : Bytes) → ((b : ℕ) → at ≤ b → b < at + (text_length at m + 1) → m b ≡ k b) → text_length at m ≡ text_length at k
unfolding text_length
text_same at m k h = length_same 65536 at m k h

pub in_alone : (P : ℕ → Type 0) (count at : ℕ) → All P (range_of count at) → (b : ℕ) → at ≤ b → b < at + count → P b
in_alone P zero at h b low high = absurd (omega arith)
in_alone P (suc count) at h b low high = pick (cases_eq b at) (λ more. in_alone P count (at + 1) (All-tail P at (range_of count (at + 1)) h) b more (omega arith))
  where
    pick : (b ≡ at) ⊎ (b ≡ at → ⊥) → (at + 1 ≤ b → P b) → P b
    pick (inl e) later = subst P (sym e) (All-head P at (range_of count (at + 1)) h)
    pick (inr ne) later = later (omega arith)

module _ (place : Placement) (low : IsLow place) (t u : State) (live : RegSet) (n : Near live t u) where
  abbrev AreRead : Routine → Type 0
  AreRead r = (p : Part) → has_part (routine_reads r) p ≡ true → Same p t u

  -- the bytes of a text and the zero behind it
  text_bytes : (at : ℕ) → All (IsOpen place (max (sp_of t) (sp_of t))) (range_of (text_length at t.mem + 1) at) → (b : ℕ) → at ≤ b → b < at + (text_length at t.mem + 1) → t.mem b ≡ u.mem b
  text_bytes at far b lo hi = n.mem b (open_one t u live n place low (max (sp_of t) (sp_of t)) b (omega arith) (in_alone (IsOpen place (max (sp_of t) (sp_of t))) (text_length at t.mem + 1) at far b lo hi))

  abbrev length_row : ℕ → ℕ → Row → Row
  length_row count at row = by_bytes (giving Ax count (far_reading (count + 1) at row))

  pub strlen_alike : AreRead (routines.Library Strlen) → RowHasRoom place (row_of (routines.Library Strlen) t) t → AlikeIf (row_of (routines.Library Strlen) t) (row_of (routines.Library Strlen) u) t
  strlen_alike reads room =
      let at : ax_of t ≡ ax_of u = ax_same t u live n (reads A refl) (reads X refl) in
      let count : text_length (ax_of t) t.mem ≡ text_length (ax_of u) u.mem = text_same (ax_of t) t.mem u.mem (text_bytes (ax_of t) room.far) ∙ ap (λ (x : ℕ). text_length x u.mem) at in
      equal_alike (length_row (text_length (ax_of t) t.mem) (ax_of t) (costing 256 (row_by (routines.Library Strlen) t))) (length_row (text_length (ax_of u) u.mem) (ax_of u) (costing 256 (row_by (routines.Library Strlen) u))) t
      (ap (λ (x : ℕ). length_row x (ax_of t) (costing 256 (row_by (routines.Library Strlen) t))) count
      ∙ (ap (λ (x : ℕ). length_row (text_length (ax_of u) u.mem) x (costing 256 (row_by (routines.Library Strlen) t))) at
      ∙ ap (λ (row : Row). length_row (text_length (ax_of u) u.mem) (ax_of u) (costing 256 row)) (plain_row t u live n (routines.Library Strlen)))) tt (λ above b g h. absurd (omega arith))

  abbrev line_row : ℕ → ℕ → List ℕ → Row → Row
  line_row count at text row = by_bytes (giving Ax 0 (record row { out = text ++ 10 ∷ []; far = range_of (count + 1) at }))

  pub puts_alike : AreRead (routines.Library Puts) → RowHasRoom place (row_of (routines.Library Puts) t) t → AlikeIf (row_of (routines.Library Puts) t) (row_of (routines.Library Puts) u) t
  puts_alike reads room =
      let at : ax_of t ≡ ax_of u = ax_same t u live n (reads A refl) (reads X refl) in
      let count : text_length (ax_of t) t.mem ≡ text_length (ax_of u) u.mem = text_same (ax_of t) t.mem u.mem (text_bytes (ax_of t) room.far) ∙ ap (λ (x : ℕ). text_length x u.mem) at in
      let text : bytes_at (text_length (ax_of t) t.mem) (ax_of t) t.mem ≡ bytes_at (text_length (ax_of u) u.mem) (ax_of u) u.mem =
      bytes_same (text_length (ax_of t) t.mem) (ax_of t) t.mem u.mem (λ b lo hi. text_bytes (ax_of t) room.far b lo (omega arith))
      ∙ (ap (λ (x : ℕ). bytes_at x (ax_of t) u.mem) count ∙ ap (λ (x : ℕ). bytes_at (text_length (ax_of u) u.mem) x u.mem) at) in
      equal_alike (line_row (text_length (ax_of t) t.mem) (ax_of t) (bytes_at (text_length (ax_of t) t.mem) (ax_of t) t.mem) (costing 256 (row_by (routines.Library Puts) t)))
      (line_row (text_length (ax_of u) u.mem) (ax_of u) (bytes_at (text_length (ax_of u) u.mem) (ax_of u) u.mem) (costing 256 (row_by (routines.Library Puts) u))) t
      (ap (λ (x : ℕ). line_row x (ax_of t) (bytes_at (text_length (ax_of t) t.mem) (ax_of t) t.mem) (costing 256 (row_by (routines.Library Puts) t))) count
      ∙ (ap (λ (x : ℕ). line_row (text_length (ax_of u) u.mem) x (bytes_at (text_length (ax_of t) t.mem) (ax_of t) t.mem) (costing 256 (row_by (routines.Library Puts) t))) at
      ∙ (ap (λ (vs : List ℕ). line_row (text_length (ax_of u) u.mem) (ax_of u) vs (costing 256 (row_by (routines.Library Puts) t))) text
      ∙ ap (λ (row : Row). line_row (text_length (ax_of u) u.mem) (ax_of u) (bytes_at (text_length (ax_of u) u.mem) (ax_of u) u.mem) (costing 256 row)) (plain_row t u live n (routines.Library Puts))))) tt (λ above b g h. absurd (omega arith))
