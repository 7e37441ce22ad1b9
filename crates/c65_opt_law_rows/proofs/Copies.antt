-- Rows of routines that copy, fill and measure, from near states.
use Rattle.std.proofs.Common.{◌≡◌, ℕ, zero, suc, ◌<◌, ◌≤◌, ◌+◌, ◌*◌, ◌==◌, Bool, true, false, if◌then◌else◌, ◌⊎◌, inl, inr, List, ◌∷◌, ◌++◌, All, max, refl, sym, subst, ap, ◌∙◌, arith}
use Rattle.std.proofs.lemmas.Bool.{cases_eq}
use Rattle.std.proofs.lemmas.List.Elements.{All-head, All-tail}
use Rattle.c65_base.specs.declared.library.Library.TheVariants.{Memcpy, Memset}
use Rattle.c65_code.specs.declared.parts.Part.{Part}
use Rattle.c65_code.specs.declared.parts.Part.TheVariants.{A, X, Zp}
use Rattle.c65_code.specs.declared.parts.RegSet.{RegSet}
use Rattle.c65_code.specs.declared.routine.Routine.{Routine}
use Rattle.c65_code.specs.declared.routine.Routine.TheVariants as routines
use Rattle.c65_code.specs.declared.routine.Width.TheVariants.{Ax}
use Rattle.c65_code.specs.Effects.{routine_reads}
use Rattle.c65_code.specs.LineState.{Bytes, write, word_at, State, sp_of, ax_of, Same}
use Rattle.c65_code.specs.Parts.{has_part}
use Rattle.c65_code.specs.Placement.{Placement}
use Rattle.c65_code.specs.Rows.{Row, row_by, giving, costing, popping, by_bytes, copy_row, row_of}
use Rattle.c65_code.specs.Steady.{IsOpen, RowHasRoom}
use Rattle.c65_code.specs.Texts.{range_of, filled, copied}
use Rattle.c65_opt_law_near.specs.Laws.{IsLow}
use Rattle.c65_opt_law_near.specs.Near.{Near}
use Rattle.c65_opt_law_rows.proofs.Rows.{AlikeIf, equal_alike, sp, word_above, word_one, at_one, open_one, pop_base, ax_same}

-- a byte that is written in both is one
pub write_one : (m k : Bytes) (at v w b : ℕ) → v ≡ w → m b ≡ k b → write m at v b ≡ write k at w b
write_one m k at v w b e h = pick (b == at)
  where
    pick : (c : Bool) → (if c then v else m b) ≡ (if c then w else k b)
    pick true = e
    pick false = h

copied_same : (count to from : ℕ) (m k : Bytes) → ((b : ℕ) → from ≤ b → b < from + count → m b ≡ k b) → copied count to from m ≡ copied count to from k
copied_same zero to from m k h = refl
copied_same (suc count) to from m k h =
    let first : m from ≡ k from = h from (omega arith) (omega arith) in
    ap (λ (v : ℕ). (to, v) ∷ copied count (to + 1) (from + 1) (write m to (m from))) first
    ∙ ap (λ (ws : List (ℕ × ℕ)). (to, k from) ∷ ws) (copied_same count (to + 1) (from + 1) (write m to (m from)) (write k to (k from)) (λ b low high. write_one m k to (m from) (k from) b first (h b (omega arith) (omega arith))))

pub in_range : (P : ℕ → Type 0) (count at : ℕ) (rest : List ℕ) → All P (range_of count at ++ rest) → (b : ℕ) → at ≤ b → b < at + count → P b
in_range P zero at rest h b low high = absurd (omega arith)
in_range P (suc count) at rest h b low high = pick (cases_eq b at) (λ more. in_range P count (at + 1) rest (All-tail P at (range_of count (at + 1) ++ rest) h) b more (omega arith))
  where
    pick : (b ≡ at) ⊎ (b ≡ at → ⊥) → (at + 1 ≤ b → P b) → P b
    pick (inl e) later = subst P (sym e) (All-head P at (range_of count (at + 1) ++ rest) h)
    pick (inr ne) later = later (omega arith)

module _ (place : Placement) (low : IsLow place) (t u : State) (live : RegSet) (n : Near live t u) where
  -- what is copied lies in data, or in the software stack at or above both values of sp
  pub copy_same : (r : Routine) (count other to target from source popped : ℕ) → count ≡ other → to ≡ target → from ≡ source
      → All (IsOpen place (max (sp_of t) (sp_of t + popped))) (range_of count from ++ range_of count to) → copy_row r count to from popped t ≡ copy_row r other target source popped u
  copy_same r count other to target from source popped e f g open_far =
      let bytes : ((b : ℕ) → from ≤ b → b < from + count → t.mem b ≡ u.mem b) =
      λ b lo hi. n.mem b (open_one t u live n place low (max (sp_of t) (sp_of t + popped)) b (omega arith) (in_range (IsOpen place (max (sp_of t) (sp_of t + popped))) count from (range_of count to) open_far b lo hi)) in
      ap (λ (ws : List (ℕ × ℕ)). by_bytes (giving Ax to (record (popping popped t (row_by r t)) { writes = ws; far = range_of count from ++ range_of count to }))) (copied_same count to from t.mem u.mem bytes)
      ∙ (ap (λ (row : Row). by_bytes (giving Ax to (record row { writes = copied count to from u.mem; far = range_of count from ++ range_of count to }))) (pop_base t u live n r popped)
      ∙ (ap (λ (x : ℕ). copy_row r x to from popped u) e ∙ (ap (λ (x : ℕ). copy_row r other x from popped u) f ∙ ap (λ (x : ℕ). copy_row r other target x popped u) g)))

  abbrev AreRead : Routine → Type 0
  AreRead r = (p : Part) → has_part (routine_reads r) p ≡ true → Same p t u

  pub copy_alike : AreRead routines.CopyTos → RowHasRoom place (row_of routines.CopyTos t) t → AlikeIf (row_of routines.CopyTos t) (row_of routines.CopyTos u) t
  copy_alike reads room =
      let lo : t.zp 12 ≡ u.zp 12 = reads (Zp 12) refl in let hi : t.zp 13 ≡ u.zp 13 = reads (Zp 13) refl in
      let count : t.zp 12 + 256 * t.zp 13 ≡ u.zp 12 + 256 * u.zp 13 = omega arith in
      let to : word_at t.mem (sp_of t) ≡ word_at u.mem (sp_of u) = word_one t u live n (sp_of t) (sp_of u) (sp t u live n) (inr (omega arith)) (inr (omega arith)) in
      equal_alike (copy_row routines.CopyTos (t.zp 12 + 256 * t.zp 13) (word_at t.mem (sp_of t)) (ax_of t) 2 t) (copy_row routines.CopyTos (u.zp 12 + 256 * u.zp 13) (word_at u.mem (sp_of u)) (ax_of u) 2 u) t
      (copy_same routines.CopyTos _ _ _ _ _ _ 2 count to (ax_same t u live n (reads A refl) (reads X refl)) room.far) tt (λ above b g h. absurd (omega arith))

  pub memcpy_alike : AreRead (routines.Library Memcpy) → RowHasRoom place (row_of (routines.Library Memcpy) t) t → AlikeIf (row_of (routines.Library Memcpy) t) (row_of (routines.Library Memcpy) u) t
  memcpy_alike reads room =
      let to : word_at t.mem (sp_of t + 2) ≡ word_at u.mem (sp_of u + 2) = word_above t u live n 2 in
      let from : word_at t.mem (sp_of t) ≡ word_at u.mem (sp_of u) = word_one t u live n (sp_of t) (sp_of u) (sp t u live n) (inr (omega arith)) (inr (omega arith)) in
      equal_alike (copy_row (routines.Library Memcpy) (ax_of t) (word_at t.mem (sp_of t + 2)) (word_at t.mem (sp_of t)) 4 t) (copy_row (routines.Library Memcpy) (ax_of u) (word_at u.mem (sp_of u + 2)) (word_at u.mem (sp_of u)) 4 u) t
      (copy_same (routines.Library Memcpy) _ _ _ _ _ _ 4 (ax_same t u live n (reads A refl) (reads X refl)) to from room.far) tt (λ above b g h. absurd (omega arith))

  -- the row of `memset`, by the number of bytes, where they go and what they become
  abbrev fill_row : ℕ → ℕ → ℕ → Row → Row
  fill_row count to v row = by_bytes (giving Ax to (record row { writes = filled count to v; far = range_of count to }))

  pub memset_alike : AreRead (routines.Library Memset) → AlikeIf (row_of (routines.Library Memset) t) (row_of (routines.Library Memset) u) t
  memset_alike reads =
      let count : ax_of t ≡ ax_of u = ax_same t u live n (reads A refl) (reads X refl) in
      let to : word_at t.mem (sp_of t + 2) ≡ word_at u.mem (sp_of u + 2) = word_above t u live n 2 in
      let v : t.mem (sp_of t) ≡ u.mem (sp_of u) = at_one t u live n (sp_of t) (sp_of u) (sp t u live n) (inr (omega arith)) in
      equal_alike (fill_row (ax_of t) (word_at t.mem (sp_of t + 2)) (t.mem (sp_of t)) (popping 4 t (costing 256 (row_by (routines.Library Memset) t)))) (fill_row (ax_of u) (word_at u.mem (sp_of u + 2)) (u.mem (sp_of u)) (popping 4 u (costing 256 (row_by (routines.Library Memset) u)))) t
      (ap (λ (x : ℕ). fill_row x (word_at t.mem (sp_of t + 2)) (t.mem (sp_of t)) (popping 4 t (costing 256 (row_by (routines.Library Memset) t)))) count
      ∙ (ap (λ (x : ℕ). fill_row (ax_of u) x (t.mem (sp_of t)) (popping 4 t (costing 256 (row_by (routines.Library Memset) t)))) to
      ∙ (ap (λ (x : ℕ). fill_row (ax_of u) (word_at u.mem (sp_of u + 2)) x (popping 4 t (costing 256 (row_by (routines.Library Memset) t)))) v
      ∙ ap (λ (row : Row). fill_row (ax_of u) (word_at u.mem (sp_of u + 2)) (u.mem (sp_of u)) (costing 256 row)) (pop_base t u live n (routines.Library Memset) 4))))
      tt (λ above b g h. absurd (omega arith))
