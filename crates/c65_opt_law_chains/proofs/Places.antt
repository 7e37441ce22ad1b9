-- Places of lines with a label, and without it.
use Rattle.std.proofs.Common.{◌≡◌, ℕ, zero, suc, ◌+◌, ◌-◌, ◌<◌, ◌≤◌, ◌==◌, ◌||◌, ◌⊎◌, inl, inr, Bool, true, false, if◌then◌else◌, List, [], ◌∷◌, ◌++◌, length, Some, None, refl, sym, subst, ap, ◌∙◌, arith}
use Rattle.std.specs.Prelude.{slice_get, nat_lt, nat_eq}
use Rattle.std.proofs.lemmas.Bool.{lt-ltb, le-ltb, cases_lt, eq-eqb, eqb-true}
use Rattle.c65_mach.specs.State.{Regs}
use Rattle.c65_mach.specs.Step.{is_taken}
use Rattle.c65_code.specs.declared.line.Line.{Line}
use Rattle.c65_code.specs.declared.line.Line.TheVariants.{Label}
use Rattle.c65_code.specs.Forms.{Form, Mark, Plain, Branch, Jump, Far, Push, Pull, Depth, Return, Run, Enter, Through, Stray, IsLocal, form_of}
use Rattle.c65_code.specs.Moves.{settle, labelled, next}
use Rattle.c65_code.specs.Segments.{target_of, targets_of, is_among}
use Rattle.c65_opt_law_follow.proofs.Lists.{get_front, get_back, settle_back, Settles, settle_front, Labels, label_front}
use Rattle.c65_opt_law_follow.proofs.Rewriting.{branch_by}
use Rattle.c65_opt_law_follow.proofs.Tables.{Ways, on_next, to_label, one_of, ways}

-- ---- labels to which lines refer

or_second : (a b : Bool) → b ≡ true → (a || b) ≡ true
or_second true b h = refl
or_second false b h = h

first_among : (k : ℕ) (labels : List ℕ) → is_among (k ∷ labels) k ≡ true
first_among k labels = let yes : (k == k) ≡ true = eq-eqb k k refl in ap (λ (b : Bool). b || is_among labels k) yes

later_among : (labels more : List ℕ) (k : ℕ) → is_among more k ≡ true → is_among (labels ++ more) k ≡ true
later_among [] more k h = h
later_among (j ∷ labels) more k h = or_second (nat_eq k j) (is_among (labels ++ more) k) (later_among labels more k h)

pub no_line : (x : Line) → None ≡ Some x → ⊥
no_line x e = cc

pub same_line : (y x : Line) → Some y ≡ Some x → y ≡ x
same_line y x e = cc

pub target_among : (lines : List Line) (q : ℕ) (x : Line) (k : ℕ) → slice_get lines q ≡ Some x → target_of x ≡ k ∷ [] → is_among (targets_of lines) k ≡ true
target_among [] q x k e t = absurd (no_line x e)
target_among (y ∷ lines) zero x k e t =
    let is : target_of y ≡ k ∷ [] = ap target_of (same_line y x e) ∙ t in
    subst (λ (labels : List ℕ). is_among (labels ++ targets_of lines) k ≡ true) (sym is) (first_among k (targets_of lines))
target_among (y ∷ lines) (suc q) x k e t = later_among (target_of y) (targets_of lines) k (target_among lines q x k e t)

-- ---- places

module _ (front behind : List Line) (l : ℕ) where
  abbrev pub labelled_lines : List Line
  labelled_lines = front ++ (Label l ∷ behind)

  abbrev pub plain_lines : List Line
  plain_lines = front ++ behind

  -- where a place goes
  abbrev pub moved : ℕ → ℕ
  moved q = if nat_lt (length front) q then q - 1 else q

  -- a place that is not the label's
  abbrev pub IsOff : ℕ → Type 0
  IsOff q = (q < length front) ⊎ (length front + 1 ≤ q)

  moved_low : (q : ℕ) → q ≤ length front → moved q ≡ q
  moved_low q le = rw (le-ltb (length front) q le) refl

  moved_high : (q : ℕ) → length front < q → moved q ≡ q - 1
  moved_high q lt = rw (lt-ltb (length front) q lt) refl

  moved_suc : (q : ℕ) → IsOff q → moved (suc q) ≡ suc (moved q)
  moved_suc q (inl lt) = moved_low (suc q) (omega (arith, lt)) ∙ ap suc (sym (moved_low q (omega (arith, lt))))
  moved_suc q (inr ge) = moved_high (suc q) (omega (arith, ge)) ∙ (let e : suc q - 1 ≡ suc (q - 1) = omega (arith, ge) in e ∙ ap suc (sym (moved_high q (omega (arith, ge)))))

  -- the machine never stands at the label, and where it stands goes to where it stands
  settled : (p : ℕ) → IsOff (settle labelled_lines p) × (moved (settle labelled_lines p) ≡ settle plain_lines (moved p))
  settled p = pick (cases_lt (length front) p)
    where
      low : p ≤ length front → Settles front (Label l ∷ behind) behind p → IsOff (settle labelled_lines p) × (moved (settle labelled_lines p) ≡ settle plain_lines (moved p))
      low le (inl h) = (inl h.0, moved_low (settle labelled_lines p) (omega (arith, h.0)) ∙ (sym h.1 ∙ ap (settle plain_lines) (sym (moved_low p le))))
      low le (inr h) =
          let a : settle labelled_lines p ≡ length front + suc (settle behind 0) = h.0 in
          let b : settle labelled_lines p - 1 ≡ length front + settle behind 0 = omega (arith, a) in
          (inr (omega (arith, a)), moved_high (settle labelled_lines p) (omega (arith, a)) ∙ (b ∙ (sym h.1 ∙ ap (settle plain_lines) (sym (moved_low p le)))))

      high : (r : ℕ) → p ≡ length front + suc r → IsOff (settle labelled_lines p) × (moved (settle labelled_lines p) ≡ settle plain_lines (moved p))
      high r e =
          let a : settle labelled_lines p ≡ length front + suc (settle behind r) = ap (settle labelled_lines) e ∙ settle_back front (Label l ∷ behind) (suc r) in
          let b : settle labelled_lines p - 1 ≡ length front + settle behind r = omega (arith, a) in
          let c : p - 1 ≡ length front + r = omega (arith, e) in
          (inr (omega (arith, a)), moved_high (settle labelled_lines p) (omega (arith, a)) ∙ (b ∙ (sym (settle_back front behind r) ∙ ap (settle plain_lines) (sym (moved_high p (omega (arith, e)) ∙ c)))))

      pick : (length front < p) ⊎ (p ≤ length front) → IsOff (settle labelled_lines p) × (moved (settle labelled_lines p) ≡ settle plain_lines (moved p))
      pick (inl lt) = high (p - suc (length front)) (omega (arith, lt))
      pick (inr le) = low le (settle_front front (Label l ∷ behind) behind p le)

  -- another label stands where it stood
  label_place : (k : ℕ) → (k ≡ l → ⊥) → moved (labelled labelled_lines k) ≡ labelled plain_lines k
  label_place k other = by (label_front front (Label l ∷ behind) behind k)
    where
      off : (l == k) ≡ false
      off = pick (l == k) refl
        where
          pick : (b : Bool) → (l == k) ≡ b → (l == k) ≡ false
          pick true e = absurd (other (sym (eqb-true l k e)))
          pick false e = e

      by : Labels front (Label l ∷ behind) behind k → moved (labelled labelled_lines k) ≡ labelled plain_lines k
      by (inl h) = moved_low (labelled labelled_lines k) (omega (arith, h.0)) ∙ sym h.1
      by (inr h) =
          let a : labelled labelled_lines k ≡ length front + suc (labelled behind k) = h.0 ∙ ap (λ (b : Bool). length front + (if b then 0 else suc (labelled behind k))) off in
          let b : labelled labelled_lines k - 1 ≡ length front + labelled behind k = omega (arith, a) in
          moved_high (labelled labelled_lines k) (omega (arith, a)) ∙ (b ∙ sym h.1)

  pub line_moves : (q : ℕ) (x : Line) → IsOff q → slice_get labelled_lines q ≡ Some x → slice_get plain_lines (moved q) ≡ Some x
  line_moves q x (inl lt) h = ap (slice_get plain_lines) (moved_low q (omega (arith, lt))) ∙ (sym (get_front front (Label l ∷ behind) behind q lt) ∙ h)
  line_moves q x (inr ge) h =
      let r = q - (length front + 1) in
      let e : q ≡ length front + suc r = omega (arith, ge) in
      let c : q - 1 ≡ length front + r = omega (arith, ge) in
      let a : slice_get labelled_lines q ≡ slice_get behind r = ap (slice_get labelled_lines) e ∙ get_back front (Label l ∷ behind) (suc r) in
      ap (slice_get plain_lines) (moved_high q (omega (arith, ge)) ∙ c) ∙ (get_back front behind r ∙ (sym a ∙ h))

  pub entry_moves : moved (settle labelled_lines 0) ≡ settle plain_lines 0
  entry_moves = (settled 0).1 ∙ ap (settle plain_lines) (moved_low 0 (omega arith))

  pub suc_moves : (q : ℕ) → IsOff q → moved (settle labelled_lines (suc q)) ≡ settle plain_lines (suc (moved q))
  suc_moves q off = (settled (suc q)).1 ∙ ap (settle plain_lines) (moved_suc q off)

  label_moves : (k : ℕ) → (k ≡ l → ⊥) → moved (settle labelled_lines (labelled labelled_lines k)) ≡ settle plain_lines (labelled plain_lines k)
  label_moves k other = (settled (labelled labelled_lines k)).1 ∙ ap (settle plain_lines) (label_place k other)

  pub next_moves : (q : ℕ) (x : Line) (regs : Regs) → IsOff q → ((k : ℕ) → target_of x ≡ k ∷ [] → k ≡ l → ⊥) → moved (next labelled_lines (form_of x) q regs) ≡ next plain_lines (form_of x) (moved q) regs
  next_moves q x regs off apart = by_form (form_of x) refl
    where
      by : Ways x → moved (next labelled_lines (form_of x) q regs) ≡ next plain_lines (form_of x) (moved q) regs
      by (on_next still to) = ap moved (to labelled_lines q regs) ∙ (suc_moves q off ∙ sym (to plain_lines (moved q) regs))
      by (to_label k target to) = ap moved (to labelled_lines q regs) ∙ (label_moves k (apart k target) ∙ sym (to plain_lines (moved q) regs))
      by (one_of op k form still target) = turn (is_taken op regs) refl
        where
          turn : (b : Bool) → is_taken op regs ≡ b → moved (next labelled_lines (form_of x) q regs) ≡ next plain_lines (form_of x) (moved q) regs
          turn true z = ap moved (branch_by labelled_lines x op k q regs true form z) ∙ (label_moves k (apart k target) ∙ sym (branch_by plain_lines x op k (moved q) regs true form z))
          turn false z = ap moved (branch_by labelled_lines x op k q regs false form z) ∙ (suc_moves q off ∙ sym (branch_by plain_lines x op k (moved q) regs false form z))

      local : (form : Form) → form_of x ≡ form → IsLocal form → moved (next labelled_lines (form_of x) q regs) ≡ next plain_lines (form_of x) (moved q) regs
      local form e i = by (ways x (subst IsLocal (sym e) i))

      other : (form : Form) → form_of x ≡ form → moved (next labelled_lines form q regs) ≡ next plain_lines form (moved q) regs → moved (next labelled_lines (form_of x) q regs) ≡ next plain_lines (form_of x) (moved q) regs
      other form e h = subst (λ (y : Form). moved (next labelled_lines y q regs) ≡ next plain_lines y (moved q) regs) (sym e) h

      by_form : (form : Form) → form_of x ≡ form → moved (next labelled_lines (form_of x) q regs) ≡ next plain_lines (form_of x) (moved q) regs
      by_form Mark e = other Mark e (suc_moves q off)
      by_form (Far i) e = other (Far i) e (suc_moves q off)
      by_form Return e = other Return e (suc_moves q off)
      by_form Stray e = other Stray e (suc_moves q off)
      by_form (Enter f reads gives) e = other (Enter f reads gives) e (suc_moves q off)
      by_form (Through reads gives) e = other (Through reads gives) e (suc_moves q off)
      by_form (Plain op mode operand) e = local (Plain op mode operand) e tt
      by_form (Branch op k) e = local (Branch op k) e tt
      by_form (Jump k) e = local (Jump k) e tt
      by_form Push e = local Push e tt
      by_form Pull e = local Pull e tt
      by_form Depth e = local Depth e tt
      by_form (Run r) e = local (Run r) e tt

  pub settles_off : (p : ℕ) → IsOff (settle labelled_lines p)
  settles_off p = (settled p).0

  pub next_off : (form : Form) (q : ℕ) (regs : Regs) → IsOff (next labelled_lines form q regs)
  next_off (Branch op k) q regs = settles_off (if is_taken op regs then labelled labelled_lines k else suc q)
  next_off (Jump k) q regs = settles_off (labelled labelled_lines k)
  next_off _ q regs = settles_off (suc q)
