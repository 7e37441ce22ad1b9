-- Rows of `strcmp` and `strcpy` from near states.
use Rattle.std.proofs.Common.{◌≡◌, ℕ, zero, suc, ◌<◌, ◌≤◌, ◌+◌, ◌==◌, Bool, true, false, if◌then◌else◌, inr, List, [], ◌∷◌, ◌++◌, All, max, refl, sym, ap, ◌∙◌, arith}
use Rattle.std.proofs.lemmas.List.Elements.{All-tail}
use Rattle.c65_base.specs.declared.library.Library.TheVariants.{Strcmp, Strcpy}
use Rattle.c65_code.specs.declared.parts.Part.{Part}
use Rattle.c65_code.specs.declared.parts.Part.TheVariants.{A, X}
use Rattle.c65_code.specs.declared.parts.RegSet.{RegSet}
use Rattle.c65_code.specs.declared.routine.Routine.{Routine}
use Rattle.c65_code.specs.declared.routine.Routine.TheVariants as routines
use Rattle.c65_code.specs.declared.routine.Width.TheVariants.{Ax}
use Rattle.c65_code.specs.Effects.{routine_reads}
use Rattle.c65_code.specs.LineState.{Bytes, write, word_at, State, sp_of, ax_of, Same}
use Rattle.c65_code.specs.Parts.{has_part}
use Rattle.c65_code.specs.Placement.{Placement}
use Rattle.c65_code.specs.Rows.{Row, row_by, giving, costing, popping, by_bytes, copy_row, row_of}
use Rattle.c65_code.specs.Steady.{IsOpen, RowHasRoom}
use Rattle.c65_code.specs.Texts.{range_of, copy_within, copy_length, common_within, common_length, difference}
use Rattle.c65_opt_law_near.specs.Laws.{IsLow}
use Rattle.c65_opt_law_near.specs.Near.{Near}
use Rattle.c65_opt_law_rows.proofs.Rows.{AlikeIf, equal_alike, sp, word_one, open_one, pop_base, ax_same}
use Rattle.c65_opt_law_rows.proofs.Copies.{write_one, in_range, copy_same}
use Rattle.c65_opt_law_rows.proofs.Texts.{in_alone}

-- ---- copies up to a zero

within_same : (fuel to from : ℕ) (m k : Bytes) → ((b : ℕ) → from ≤ b → b < from + (copy_within fuel to from m + 1) → m b ≡ k b) → copy_within fuel to from m ≡ copy_within fuel to from k
within_same zero to from m k h = refl
within_same (suc fuel) to from m k h = pick (m from == 0) refl h (within_same fuel (to + 1) (from + 1) (write m to (m from)) (write k to (k from)))
  where
    pick : (c : Bool) → (m from == 0) ≡ c
        → ((b : ℕ) → from ≤ b → b < from + ((if c then 0 else suc (copy_within fuel (to + 1) (from + 1) (write m to (m from)))) + 1) → m b ≡ k b)
        → (((b : ℕ) → from + 1 ≤ b → b < from + 1 + (copy_within fuel (to + 1) (from + 1) (write m to (m from)) + 1) → write m to (m from) b ≡ write k to (k from) b)
        → copy_within fuel (to + 1) (from + 1) (write m to (m from)) ≡ copy_within fuel (to + 1) (from + 1) (write k to (k from)))
        → (if c then 0 else suc (copy_within fuel (to + 1) (from + 1) (write m to (m from)))) ≡ (if k from == 0 then 0 else suc (copy_within fuel (to + 1) (from + 1) (write k to (k from))))
    pick true e h later =
        let first : m from ≡ k from = h from (omega arith) (omega arith) in
        let end : (k from == 0) ≡ true = sym (ap (λ (v : ℕ). v == 0) first) ∙ e in
        sym (ap (λ (b : Bool). if b then 0 else suc (copy_within fuel (to + 1) (from + 1) (write k to (k from)))) end)
    pick false e h later =
        let first : m from ≡ k from = h from (omega arith) (omega arith) in
        let more : (k from == 0) ≡ false = sym (ap (λ (v : ℕ). v == 0) first) ∙ e in
        ap suc (later (λ b low high. write_one m k to (m from) (k from) b first (h b (omega arith) (omega arith)))) ∙ sym (ap (λ (b : Bool). if b then 0 else suc (copy_within fuel (to + 1) (from + 1) (write k to (k from)))) more)

copy_length_same : (to from : ℕ) (m k : Bytes) → ((b : ℕ) → from ≤ b → b < from + (copy_length to from m + 1) → m b ≡ k b) → copy_length to from m ≡ copy_length to from k
unfolding copy_length
copy_length_same to from m k h = within_same 65536 to from m k h

-- ---- what two texts have in common

common_same : (fuel a b : ℕ) (m k : Bytes) → ((x : ℕ) → a ≤ x → x < a + (common_within fuel a b m + 1) → m x ≡ k x) → ((x : ℕ) → b ≤ x → x < b + (common_within fuel a b m + 1) → m x ≡ k x)
    → common_within fuel a b m ≡ common_within fuel a b k
common_same zero a b m k h g = refl
common_same (suc fuel) a b m k h g = pick (m a == m b) refl (m a == 0) refl h g (common_same fuel (a + 1) (b + 1) m k)
  where
    pick : (c : Bool) → (m a == m b) ≡ c → (d : Bool) → (m a == 0) ≡ d
        → ((x : ℕ) → a ≤ x → x < a + ((if c then (if d then 0 else suc (common_within fuel (a + 1) (b + 1) m)) else 0) + 1) → m x ≡ k x)
        → ((x : ℕ) → b ≤ x → x < b + ((if c then (if d then 0 else suc (common_within fuel (a + 1) (b + 1) m)) else 0) + 1) → m x ≡ k x)
        → (((x : ℕ) → a + 1 ≤ x → x < a + 1 + (common_within fuel (a + 1) (b + 1) m + 1) → m x ≡ k x) → ((x : ℕ) → b + 1 ≤ x → x < b + 1 + (common_within fuel (a + 1) (b + 1) m + 1) → m x ≡ k x)
        → common_within fuel (a + 1) (b + 1) m ≡ common_within fuel (a + 1) (b + 1) k)
        → (if c then (if d then 0 else suc (common_within fuel (a + 1) (b + 1) m)) else 0) ≡ (if k a == k b then (if k a == 0 then 0 else suc (common_within fuel (a + 1) (b + 1) k)) else 0)
    pick true e true f h g later =
        let one : m a ≡ k a = h a (omega arith) (omega arith) in let two : m b ≡ k b = g b (omega arith) (omega arith) in
        let alike : (k a == k b) ≡ true = sym (ap (λ (v : ℕ). v == m b) one ∙ ap (λ (v : ℕ). k a == v) two) ∙ e in
        let end : (k a == 0) ≡ true = sym (ap (λ (v : ℕ). v == 0) one) ∙ f in
        sym (ap (λ (x : Bool). if x then (if k a == 0 then 0 else suc (common_within fuel (a + 1) (b + 1) k)) else 0) alike ∙ ap (λ (x : Bool). if x then 0 else suc (common_within fuel (a + 1) (b + 1) k)) end)
    pick true e false f h g later =
        let one : m a ≡ k a = h a (omega arith) (omega arith) in let two : m b ≡ k b = g b (omega arith) (omega arith) in
        let alike : (k a == k b) ≡ true = sym (ap (λ (v : ℕ). v == m b) one ∙ ap (λ (v : ℕ). k a == v) two) ∙ e in
        let more : (k a == 0) ≡ false = sym (ap (λ (v : ℕ). v == 0) one) ∙ f in
        ap suc (later (λ x low high. h x (omega arith) (omega arith)) (λ x low high. g x (omega arith) (omega arith)))
        ∙ sym (ap (λ (x : Bool). if x then (if k a == 0 then 0 else suc (common_within fuel (a + 1) (b + 1) k)) else 0) alike ∙ ap (λ (x : Bool). if x then 0 else suc (common_within fuel (a + 1) (b + 1) k)) more)
    pick false e d f h g later =
        let one : m a ≡ k a = h a (omega arith) (omega arith) in let two : m b ≡ k b = g b (omega arith) (omega arith) in
        let apart : (k a == k b) ≡ false = sym (ap (λ (v : ℕ). v == m b) one ∙ ap (λ (v : ℕ). k a == v) two) ∙ e in
        sym (ap (λ (x : Bool). if x then (if k a == 0 then 0 else suc (common_within fuel (a + 1) (b + 1) k)) else 0) apart)

common_length_same : (a b : ℕ) (m k : Bytes) → ((x : ℕ) → a ≤ x → x < a + (common_length a b m + 1) → m x ≡ k x) → ((x : ℕ) → b ≤ x → x < b + (common_length a b m + 1) → m x ≡ k x) → common_length a b m ≡ common_length a b k
unfolding common_length
common_length_same a b m k h g = common_same 65536 a b m k h g

pub all_behind : (P : ℕ → Type 0) (xs ys : List ℕ) → All P (xs ++ ys) → All P ys
all_behind P [] ys h = h
all_behind P (x ∷ xs) ys h = all_behind P xs ys (All-tail P x (xs ++ ys) h)

module _ (place : Placement) (low : IsLow place) (t u : State) (live : RegSet) (n : Near live t u) where
  abbrev AreRead : Routine → Type 0
  AreRead r = (p : Part) → has_part (routine_reads r) p ≡ true → Same p t u

  abbrev Open : ℕ → Type 0
  Open b = IsOpen place (max (sp_of t) (sp_of t + 2)) b

  open_same : (b : ℕ) → Open b → t.mem b ≡ u.mem b
  open_same b h = n.mem b (open_one t u live n place low (max (sp_of t) (sp_of t + 2)) b (omega arith) h)

  pub strcpy_alike : AreRead (routines.Library Strcpy) → RowHasRoom place (row_of (routines.Library Strcpy) t) t → AlikeIf (row_of (routines.Library Strcpy) t) (row_of (routines.Library Strcpy) u) t
  strcpy_alike reads room =
      let to : word_at t.mem (sp_of t) ≡ word_at u.mem (sp_of u) = word_one t u live n (sp_of t) (sp_of u) (sp t u live n) (inr (omega arith)) (inr (omega arith)) in
      let from : ax_of t ≡ ax_of u = ax_same t u live n (reads A refl) (reads X refl) in
      let count : ℕ = copy_length (word_at t.mem (sp_of t)) (ax_of t) t.mem + 1 in
      let same : copy_length (word_at t.mem (sp_of t)) (ax_of t) t.mem ≡ copy_length (word_at u.mem (sp_of u)) (ax_of u) u.mem =
      copy_length_same (word_at t.mem (sp_of t)) (ax_of t) t.mem u.mem (λ b lo hi. open_same b (in_range Open count (ax_of t) (range_of count (word_at t.mem (sp_of t))) room.far b lo hi))
      ∙ (ap (λ (x : ℕ). copy_length x (ax_of t) u.mem) to ∙ ap (λ (x : ℕ). copy_length (word_at u.mem (sp_of u)) x u.mem) from) in
      equal_alike (copy_row (routines.Library Strcpy) (copy_length (word_at t.mem (sp_of t)) (ax_of t) t.mem + 1) (word_at t.mem (sp_of t)) (ax_of t) 2 t)
      (copy_row (routines.Library Strcpy) (copy_length (word_at u.mem (sp_of u)) (ax_of u) u.mem + 1) (word_at u.mem (sp_of u)) (ax_of u) 2 u) t
      (copy_same place low t u live n (routines.Library Strcpy) _ _ _ _ _ _ 2 (ap (λ (x : ℕ). x + 1) same) to from room.far) tt (λ above b g h. absurd (omega arith))

  abbrev compared_row : ℕ → ℕ → ℕ → ℕ → ℕ → Row → Row
  compared_row same a b v w row = by_bytes (giving Ax (difference v w) (record row { far = range_of (same + 1) a ++ range_of (same + 1) b }))

  pub strcmp_alike : AreRead (routines.Library Strcmp) → RowHasRoom place (row_of (routines.Library Strcmp) t) t → AlikeIf (row_of (routines.Library Strcmp) t) (row_of (routines.Library Strcmp) u) t
  strcmp_alike reads room =
      let a : ℕ = word_at t.mem (sp_of t) in
      let b : ℕ = ax_of t in
      let c : ℕ = word_at u.mem (sp_of u) in
      let d : ℕ = ax_of u in
      let one : a ≡ c = word_one t u live n (sp_of t) (sp_of u) (sp t u live n) (inr (omega arith)) (inr (omega arith)) in
      let two : b ≡ d = ax_same t u live n (reads A refl) (reads X refl) in
      let k : ℕ = common_length a b t.mem in
      let l : ℕ = common_length c d u.mem in
      let first : ((x : ℕ) → a ≤ x → x < a + (k + 1) → t.mem x ≡ u.mem x) = λ x lo hi. open_same x (in_range Open (k + 1) a (range_of (k + 1) b) room.far x lo hi) in
      let second : ((x : ℕ) → b ≤ x → x < b + (k + 1) → t.mem x ≡ u.mem x) = λ x lo hi. open_same x (in_alone Open (k + 1) b (all_behind Open (range_of (k + 1) a) (range_of (k + 1) b) room.far) x lo hi) in
      let same : k ≡ l = common_length_same a b t.mem u.mem first second ∙ (ap (λ (x : ℕ). common_length x b u.mem) one ∙ ap (λ (x : ℕ). common_length c x u.mem) two) in
      let v : t.mem (a + k) ≡ u.mem (c + l) = first (a + k) (omega arith) (omega arith) ∙ (ap (λ (x : ℕ). u.mem (x + k)) one ∙ ap (λ (x : ℕ). u.mem (c + x)) same) in
      let w : t.mem (b + k) ≡ u.mem (d + l) = second (b + k) (omega arith) (omega arith) ∙ (ap (λ (x : ℕ). u.mem (x + k)) two ∙ ap (λ (x : ℕ). u.mem (d + x)) same) in
      let row : Row = popping 2 t (costing 256 (row_by (routines.Library Strcmp) t)) in
      equal_alike (compared_row k a b (t.mem (a + k)) (t.mem (b + k)) row) (compared_row l c d (u.mem (c + l)) (u.mem (d + l)) (popping 2 u (costing 256 (row_by (routines.Library Strcmp) u)))) t
      (ap (λ (x : ℕ). compared_row x a b (t.mem (a + k)) (t.mem (b + k)) row) same ∙ (ap (λ (x : ℕ). compared_row l x b (t.mem (a + k)) (t.mem (b + k)) row) one
      ∙ (ap (λ (x : ℕ). compared_row l c x (t.mem (a + k)) (t.mem (b + k)) row) two ∙ (ap (λ (x : ℕ). compared_row l c d x (t.mem (b + k)) row) v
      ∙ (ap (λ (x : ℕ). compared_row l c d (u.mem (c + l)) x row) w ∙ ap (λ (x : Row). compared_row l c d (u.mem (c + l)) (u.mem (d + l)) (costing 256 x)) (pop_base t u live n (routines.Library Strcmp) 2))))))
      tt (λ above b g h. absurd (omega arith))
