-- A window in the middle of a function's lines: places before it, at it, and behind it.
use Rattle.std.proofs.Common.{◌≡◌, ℕ, zero, suc, ◌+◌, ◌-◌, ◌<◌, ◌≤◌, ◌⊎◌, inl, inr, List, [], ◌∷◌, ◌++◌, length, Some, Bool, true, false, refl, sym, ap, ◌∙◌, arith}
use Rattle.std.specs.Prelude.{slice_get, if◌then◌else◌, nat_lt, ◌==◌}
use Rattle.std.proofs.lemmas.Bool.{lt-ltb, le-ltb}
use Rattle.c65_mach.specs.State.{Regs}
use Rattle.c65_mach.specs.Step.{is_taken}
use Rattle.c65_code.specs.declared.line.Line.{Line}
use Rattle.c65_code.specs.declared.line.Line.TheVariants.{Label, Do, Call}
use Rattle.c65_code.specs.Forms.{Form, Branch, Jump, IsLocal, form_of}
use Rattle.c65_code.specs.Moves.{settle, labelled, next}
use Rattle.c65_opt_law_follow.specs.Windows.{WayOut, Behind, ToLabel, IsInner, AreInner}
use Rattle.c65_opt_law_follow.proofs.Walks.{IsInstruction, inner_instruction}
use Rattle.c65_opt_law_follow.specs.Laws.{exit_place}

-- lines that are no labels
abbrev pub AreInstructions : List Line → Type 0
AreInstructions [] = Unit {0}
AreInstructions (l ∷ ls) = IsInstruction l × AreInstructions ls

pub inner_instructions : (ls : List Line) → AreInner ls → AreInstructions ls
inner_instructions [] h = tt
inner_instructions (l ∷ ls) h = (inner_instruction l h.0, inner_instructions ls h.1)

-- the first lines of a code
pub get_front : (front x y : List Line) (q : ℕ) → q < length front → slice_get (front ++ x) q ≡ slice_get (front ++ y) q
get_front [] x y q lt = absurd (omega (arith, lt))
get_front (l ∷ front) x y zero lt = refl
get_front (l ∷ front) x y (suc q) lt = get_front front x y q (omega (arith, lt))

pub get_back : (front x : List Line) (q : ℕ) → slice_get (front ++ x) (length front + q) ≡ slice_get x q
get_back [] x q = ap (slice_get x) (let e : 0 + q ≡ q = omega arith in e)
get_back (l ∷ front) x q = ap (slice_get (l ∷ (front ++ x))) (let e : length (l ∷ front) + q ≡ suc (length front + q) = omega arith in e) ∙ get_back front x q

settle_suc : (l : Line) (ls : List Line) (p : ℕ) → settle (l ∷ ls) (suc p) ≡ suc (settle ls p)
settle_suc (Label k) ls p = refl
settle_suc (Do op mode operand) ls p = refl
settle_suc (Call callee) ls p = refl

pub settle_back : (front x : List Line) (q : ℕ) → settle (front ++ x) (length front + q) ≡ length front + settle x q
settle_back [] x q = ap (settle x) (let e : 0 + q ≡ q = omega arith in e) ∙ (let e : settle x q ≡ 0 + settle x q = omega arith in e)
settle_back (l ∷ front) x q =
    ap (settle (l ∷ (front ++ x))) (let e : length (l ∷ front) + q ≡ suc (length front + q) = omega arith in e) ∙ (settle_suc l (front ++ x) (length front + q) ∙ (ap suc (settle_back front x q) ∙ (let e : suc (length front + settle x q) ≡ length (l ∷ front) + settle x q = omega arith in e)))

-- a place up to the end of the first lines settles among them, whatever follows, or where what follows settles
abbrev pub Settles : List Line → List Line → List Line → ℕ → Type 0
Settles front x y p = ((settle (front ++ x) p < length front) × (settle (front ++ y) p ≡ settle (front ++ x) p)) ⊎ ((settle (front ++ x) p ≡ length front + settle x 0) × (settle (front ++ y) p ≡ length front + settle y 0))

settles_on : (l : Line) (front x y : List Line) (p q : ℕ) → settle (l ∷ (front ++ x)) q ≡ suc (settle (front ++ x) p) → settle (l ∷ (front ++ y)) q ≡ suc (settle (front ++ y) p) → Settles front x y p → Settles (l ∷ front) x y q
settles_on l front x y p q ex ey (inl h) = inl (omega (arith, h.0, ex), ey ∙ (ap suc h.1 ∙ sym ex))
settles_on l front x y p q ex ey (inr h) = inr (omega (arith, h.0, ex), omega (arith, h.1, ey))

pub settle_front : (front x y : List Line) (p : ℕ) → p ≤ length front → Settles front x y p
settle_front [] x y p le =
    let e : p ≡ 0 = omega (arith, le) in
    let e1 : settle x 0 ≡ 0 + settle x 0 = omega arith in
    let e2 : settle y 0 ≡ 0 + settle y 0 = omega arith in
    inr (ap (settle x) e ∙ e1, ap (settle y) e ∙ e2)
settle_front (Label k ∷ front) x y zero le = settles_on (Label k) front x y 0 0 refl refl (settle_front front x y 0 (omega arith))
settle_front (Do op mode operand ∷ front) x y zero le = inl (omega arith, refl)
settle_front (Call callee ∷ front) x y zero le = inl (omega arith, refl)
settle_front (Label k ∷ front) x y (suc p) le = settles_on (Label k) front x y p (suc p) refl refl (settle_front front x y p (omega (arith, le)))
settle_front (Do op mode operand ∷ front) x y (suc p) le = settles_on (Do op mode operand) front x y p (suc p) refl refl (settle_front front x y p (omega (arith, le)))
settle_front (Call callee ∷ front) x y (suc p) le = settles_on (Call callee) front x y p (suc p) refl refl (settle_front front x y p (omega (arith, le)))

abbrev pub Labels : List Line → List Line → List Line → ℕ → Type 0
Labels front x y k = ((labelled (front ++ x) k < length front) × (labelled (front ++ y) k ≡ labelled (front ++ x) k)) ⊎ ((labelled (front ++ x) k ≡ length front + labelled x k) × (labelled (front ++ y) k ≡ length front + labelled y k))

labels_on : (l : Line) (front x y : List Line) (k : ℕ) → labelled (l ∷ (front ++ x)) k ≡ suc (labelled (front ++ x) k) → labelled (l ∷ (front ++ y)) k ≡ suc (labelled (front ++ y) k) → Labels front x y k → Labels (l ∷ front) x y k
labels_on l front x y k ex ey (inl h) = inl (omega (arith, h.0, ex), ey ∙ (ap suc h.1 ∙ sym ex))
labels_on l front x y k ex ey (inr h) = inr (omega (arith, h.0, ex), omega (arith, h.1, ey))

pub label_front : (front x y : List Line) (k : ℕ) → Labels front x y k
label_front [] x y k = inr (let e : labelled x k ≡ 0 + labelled x k = omega arith in e, let e : labelled y k ≡ 0 + labelled y k = omega arith in e)
label_front (Label j ∷ front) x y k = go (label_front front x y k) (j == k) refl
  where
    go : Labels front x y k → (b : Bool) → (j == k) ≡ b → Labels (Label j ∷ front) x y k
    go rest true e =
        let ex : labelled (Label j ∷ (front ++ x)) k ≡ 0 = ap (λ (b : Bool). if b then 0 else suc (labelled (front ++ x) k)) e in
        let ey : labelled (Label j ∷ (front ++ y)) k ≡ 0 = ap (λ (b : Bool). if b then 0 else suc (labelled (front ++ y) k)) e in
        inl (omega (arith, ex), ey ∙ sym ex)
    go rest false e = labels_on (Label j) front x y k (ap (λ (b : Bool). if b then 0 else suc (labelled (front ++ x) k)) e) (ap (λ (b : Bool). if b then 0 else suc (labelled (front ++ y) k)) e) rest
label_front (Do op mode operand ∷ front) x y k = labels_on (Do op mode operand) front x y k refl refl (label_front front x y k)
label_front (Call callee ∷ front) x y k = labels_on (Call callee) front x y k refl refl (label_front front x y k)

-- a window has no labels
pub label_inner : (old behind : List Line) (k : ℕ) → AreInstructions old → labelled (old ++ behind) k ≡ length old + labelled behind k
label_inner [] behind k h = omega arith
label_inner (Label j ∷ old) behind k h = absurd h.0
label_inner (Do op mode operand ∷ old) behind k h = ap suc (label_inner old behind k h.1) ∙ (let e : suc (length old + labelled behind k) ≡ length (Do op mode operand ∷ old) + labelled behind k = omega arith in e)
label_inner (Call callee ∷ old) behind k h = ap suc (label_inner old behind k h.1) ∙ (let e : suc (length old + labelled behind k) ≡ length (Call callee ∷ old) + labelled behind k = omega arith in e)

pub settle_inner : (old behind : List Line) → 1 ≤ length old → AreInstructions old → settle (old ++ behind) 0 ≡ 0
settle_inner [] behind le h = absurd (omega (arith, le))
settle_inner (Label j ∷ old) behind le h = absurd h.0
settle_inner (Do op mode operand ∷ old) behind le h = refl
settle_inner (Call callee ∷ old) behind le h = refl

module _ (front old new behind : List Line) (some : 1 ≤ length old) (inner : AreInstructions old) (new_inner : AreInstructions new) where
  abbrev pub lines_a : List Line
  lines_a = front ++ (old ++ behind)

  abbrev pub lines_b : List Line
  lines_b = front ++ (new ++ behind)

  -- where a place goes: one before the window stays, one of the window goes to what stands at its place, and one behind it moves
  abbrev pub moved_place : ℕ → ℕ
  moved_place q = if nat_lt q (length front) then q else (if nat_lt q (length front + length old) then settle lines_b (length front) else (q - length old) + length new)

  moved_front : (q : ℕ) → q < length front → moved_place q ≡ q
  moved_front q lt = rw (lt-ltb q (length front) lt) refl

  pub moved_window : (q : ℕ) → length front ≤ q → q < length front + length old → moved_place q ≡ settle lines_b (length front)
  moved_window q le lt = rw (le-ltb q (length front) le, lt-ltb q (length front + length old) lt) refl

  moved_back : (r : ℕ) → moved_place (length front + (length old + r)) ≡ length front + (length new + r)
  moved_back r =
      let e : (length front + (length old + r) - length old) + length new ≡ length front + (length new + r) = omega arith in
      let l1 : length front ≤ length front + (length old + r) = omega arith in
      let l2 : length front + length old ≤ length front + (length old + r) = omega arith in
      rw (le-ltb (length front + (length old + r)) (length front) l1, le-ltb (length front + (length old + r)) (length front + length old) l2) e

  -- places before the window or at its start settle alike, and so do those behind it
  pub settles_front : (p : ℕ) → p ≤ length front → (moved_place (settle lines_a p) ≡ settle lines_b p) × (settle lines_a p ≤ length front)
  settles_front p le = go (settle_front front (old ++ behind) (new ++ behind) p le)
    where
      go : Settles front (old ++ behind) (new ++ behind) p → (moved_place (settle lines_a p) ≡ settle lines_b p) × (settle lines_a p ≤ length front)
      go (inl h) = (moved_front _ h.0 ∙ sym h.1, omega (arith, h.0))
      go (inr h) =
          let e : settle lines_a p ≡ length front = omega (arith, h.0, settle_inner old behind some inner) in
          let b : settle lines_b (length front) ≡ settle lines_b p = ap (settle lines_b) (let z : length front ≡ length front + 0 = omega arith in z) ∙ (settle_back front (new ++ behind) 0 ∙ sym h.1) in
          (ap moved_place e ∙ (moved_window (length front) (omega arith) (omega (arith, some)) ∙ b), omega (arith, e))

  settles_back : (r : ℕ) → (moved_place (settle lines_a (length front + (length old + r))) ≡ settle lines_b (length front + (length new + r))) × (length front + length old ≤ settle lines_a (length front + (length old + r)))
  settles_back r =
      let ea : settle lines_a (length front + (length old + r)) ≡ length front + (length old + settle behind r) = settle_back front (old ++ behind) (length old + r) ∙ ap (λ (n : ℕ). length front + n) (settle_back old behind r) in
      let eb : settle lines_b (length front + (length new + r)) ≡ length front + (length new + settle behind r) = settle_back front (new ++ behind) (length new + r) ∙ ap (λ (n : ℕ). length front + n) (settle_back new behind r) in
      (ap moved_place ea ∙ (moved_back (settle behind r) ∙ sym eb), omega (arith, ea))

  -- a place and its image, outside of the window but for its beginning
  abbrev pub Fine : ℕ → ℕ → Type 0
  Fine x y = (moved_place x ≡ y) × ((x ≤ length front) ⊎ (length front + length old ≤ x))

  settles_label : (k : ℕ) → Fine (settle lines_a (labelled lines_a k)) (settle lines_b (labelled lines_b k))
  settles_label k = go (label_front front (old ++ behind) (new ++ behind) k)
    where
      go : Labels front (old ++ behind) (new ++ behind) k → Fine (settle lines_a (labelled lines_a k)) (settle lines_b (labelled lines_b k))
      go (inl h) = let s = settles_front (labelled lines_a k) (omega (arith, h.0)) in (s.0 ∙ ap (settle lines_b) (sym h.1), inl s.1)
      go (inr h) =
          let s = settles_back (labelled behind k) in
          let ea : labelled lines_a k ≡ length front + (length old + labelled behind k) = h.0 ∙ ap (λ (n : ℕ). length front + n) (label_inner old behind k inner) in
          let eb : labelled lines_b k ≡ length front + (length new + labelled behind k) = h.1 ∙ ap (λ (n : ℕ). length front + n) (label_inner new behind k new_inner) in
          (ap (λ (n : ℕ). moved_place (settle lines_a n)) ea ∙ (s.0 ∙ ap (settle lines_b) (sym eb)), inr (omega (arith, ap (settle lines_a) ea, s.1)))

  -- a line outside of the window stands at its new place, and the next place goes to the next
  pub line_moves : (q : ℕ) (l : Line) → (q < length front) ⊎ (length front + length old ≤ q) → slice_get lines_a q ≡ Some l → slice_get lines_b (moved_place q) ≡ Some l
  line_moves q l (inl lt) h = ap (slice_get lines_b) (moved_front q lt) ∙ (sym (get_front front (old ++ behind) (new ++ behind) q lt) ∙ h)
  line_moves q l (inr ge) h =
      let r = q - (length front + length old) in
      let eq : q ≡ length front + (length old + r) = omega (arith, ge) in
      let a : slice_get lines_a q ≡ slice_get behind r = ap (slice_get lines_a) eq ∙ (get_back front (old ++ behind) (length old + r) ∙ get_back old behind r) in
      let b : slice_get lines_b (length front + (length new + r)) ≡ slice_get behind r = get_back front (new ++ behind) (length new + r) ∙ get_back new behind r in
      ap (λ (n : ℕ). slice_get lines_b (moved_place n)) eq ∙ (ap (slice_get lines_b) (moved_back r) ∙ (b ∙ (sym a ∙ h)))

  pub suc_moves : (q : ℕ) → (q < length front) ⊎ (length front + length old ≤ q) → Fine (settle lines_a (suc q)) (settle lines_b (suc (moved_place q)))
  suc_moves q (inl lt) = let s = settles_front (suc q) (omega (arith, lt)) in (s.0 ∙ ap (λ (n : ℕ). settle lines_b (suc n)) (sym (moved_front q lt)), inl s.1)
  suc_moves q (inr ge) =
      let r = q - (length front + length old) in
      let s = settles_back (suc r) in
      let eq : q ≡ length front + (length old + r) = omega (arith, ge) in
      let ea : suc q ≡ length front + (length old + suc r) = omega (arith, ge) in
      let eb : length front + (length new + suc r) ≡ suc (moved_place q) = omega (arith, ap moved_place eq, moved_back r) in
      (ap (λ (n : ℕ). moved_place (settle lines_a n)) ea ∙ (s.0 ∙ ap (settle lines_b) eb), inr (omega (arith, ap (settle lines_a) ea, s.1)))

  pub next_moves : (q : ℕ) (form : Form) (regs : Regs) → (q < length front) ⊎ (length front + length old ≤ q) → Fine (next lines_a form q regs) (next lines_b form (moved_place q) regs)
  next_moves q (Jump k) regs h = settles_label k
  next_moves q (Branch op k) regs h = go (is_taken op regs)
    where
      go : (b : Bool) → Fine (settle lines_a (if b then labelled lines_a k else suc q)) (settle lines_b (if b then labelled lines_b k else suc (moved_place q)))
      go true = settles_label k
      go false = suc_moves q h
  next_moves q _ regs h = suc_moves q h

  pub entry_moves : Fine (settle lines_a 0) (settle lines_b 0)
  entry_moves = let s = settles_front 0 (omega arith) in (s.0, inl s.1)

  pub exit_moves : (e : WayOut) → Fine (exit_place lines_a (length front + length old) e) (exit_place lines_b (length front + length new) e)
  exit_moves Behind =
      let s = settles_back 0 in
      let ea : length front + length old ≡ length front + (length old + 0) = omega arith in
      let eb : length front + (length new + 0) ≡ length front + length new = omega arith in
      (ap (λ (n : ℕ). moved_place (settle lines_a n)) ea ∙ (s.0 ∙ ap (settle lines_b) eb), inr (omega (arith, ap (settle lines_a) ea, s.1)))
  exit_moves (ToLabel k) = settles_label k
