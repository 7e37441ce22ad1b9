-- Runs through windows: what a run shows of a window, and a run made from ways through one.
use Rattle.std.proofs.Common.{◌≡◌, ℕ, zero, suc, ◌+◌, ◌-◌, ◌<◌, ◌≤◌, ◌⊎◌, inl, inr, List, [], ◌∷◌, length, Option, Some, None, Bool, true, false, refl, sym, ap, ◌∙◌, subst, arith}
use Rattle.std.specs.Prelude.{slice_get, if◌then◌else◌}
use Rattle.c65_mach.specs.declared.rows.Op.{Op}
use Rattle.c65_mach.specs.Step.{is_taken}
use Rattle.c65_code.specs.declared.line.Line.{Line}
use Rattle.c65_code.specs.declared.line.Line.TheVariants.{Label, Do, Call}
use Rattle.c65_code.specs.Comes.{Seen, seen_at, Shown, shown_by, Comes, here, on}
use Rattle.c65_code.specs.Follows.{IsBelow}
use Rattle.c65_code.specs.Forms.{Form, Mark, Branch, Jump, IsLocal, form_of}
use Rattle.c65_code.specs.LineState.{Place, State, IsBytes}
use Rattle.c65_code.specs.Moves.{settle, labelled, next, Does, Moves}
use Rattle.c65_code.specs.Parts.{no_parts}
use Rattle.c65_code.specs.Placement.{Setting}
use Rattle.c65_code.specs.Steady.{IsCalm, IsSteady}
use Rattle.c65_code.specs.Weights.{Weighs}
use Rattle.c65_opt_law_near.specs.Laws.{IsLow}
use Rattle.c65_opt_law_follow.specs.Windows.{WayOut, Behind, ToLabel, IsPassed, IsInner, weight_of, Way, ends, goes, jumps, branches, passes, Safe, safe_end, safe_line, safe_jump, safe_branch}
use Rattle.c65_opt_law_follow.specs.Laws.{exit_place}
use Rattle.c65_opt_law_follow.proofs.Seen.{seen_grows, seen_room, seen_else, seen_other}
use Rattle.c65_opt_law_follow.proofs.Lines.{goes_local, local_goes, Leads, leads}
use Rattle.c65_opt_law_follow.proofs.Inner.{InnerKind, passed, jump, branch, inner_kind, passed_local, inner_local, passed_next, weighs_local, local_weighs, does_shown, still_running}
use Rattle.c65_opt_law_follow.proofs.Ways.{IsGood, AreGood}

abbrev pub HasAt : List Line → ℕ → List Line → Type 0
HasAt lines p [] = Unit {0}
HasAt lines p (l ∷ ls) = (slice_get lines p ≡ Some l) × HasAt lines (suc p) ls

abbrev pub IsInstruction : Line → Type 0
IsInstruction (Label l) = ⊥
IsInstruction _ = Unit {0}

pub inner_instruction : (l : Line) → IsInner (form_of l) → IsInstruction l
inner_instruction (Label k) i = absurd i
inner_instruction (Do op mode operand) i = tt
inner_instruction (Call callee) i = tt

abbrev IsSomeInstruction : Option Line → Type 0
IsSomeInstruction None = ⊥
IsSomeInstruction (Some l) = IsInstruction l

pub settle_line : (lines : List Line) (p : ℕ) (l : Line) → IsInstruction l → slice_get lines p ≡ Some l → settle lines p ≡ p
settle_line [] p l i h = refl
settle_line (Label k ∷ ls) zero l i h = absurd (subst IsSomeInstruction (sym h) i)
settle_line (_ ∷ ls) zero l i h = refl
settle_line (Label k ∷ ls) (suc p) l i h = ap suc (settle_line ls p l i h)
settle_line (_ ∷ ls) (suc p) l i h = ap suc (settle_line ls p l i h)

pub settle_up : (lines : List Line) (p : ℕ) → p ≤ settle lines p
settle_up [] p = omega arith
settle_up (Label k ∷ ls) zero = omega arith
settle_up (_ ∷ ls) zero = omega arith
settle_up (Label k ∷ ls) (suc p) = omega (arith, settle_up ls p)
settle_up (_ ∷ ls) (suc p) = omega (arith, settle_up ls p)

pub jump_next : (lines : List Line) (l : Line) (k q : ℕ) (t : State) → form_of l ≡ Jump k → next lines (form_of l) q t.regs ≡ settle lines (labelled lines k)
jump_next lines l k q t e = ap (λ (f : Form). next lines f q t.regs) e

pub branch_next : (lines : List Line) (l : Line) (op : Op) (k q : ℕ) (t : State) (b : Bool) → form_of l ≡ Branch op k → is_taken op t.regs ≡ b → next lines (form_of l) q t.regs ≡ settle lines (if b then labelled lines k else suc q)
branch_next lines l op k q t b e z = ap (λ (f : Form). next lines f q t.regs) e ∙ ap (λ (x : Bool). settle lines (if x then labelled lines k else suc q)) z

module _ (s : Setting) (Q : Place → State → Seen → Type 0) where
  pub weaken : {w : ℕ} {p : Place} {t : State} {seen : Seen} (v : ℕ) → w ≤ v → Comes s Q w p t seen → Comes s Q v p t seen
  weaken v le (here q ca) = here q ca
  weaken v le (on {v = x} l h st c wc lw q0 u0 m0 k) = on {v = x} l h st c wc (omega (arith, lw, le)) q0 u0 m0 k

  pub comes_calm : (w : ℕ) (p : Place) (t : State) (seen : Seen) → Comes s Q w p t seen → IsCalm s t
  comes_calm w p t seen (here q ca) = ca
  comes_calm w p t seen (on l h st c wc lw q0 u0 m0 k) = st.calm

module _ (s : Setting) (low : IsLow s.place) (Q : Place → State → Seen → Type 0) where
  -- how all runs from a window's line on leave the window, where `cap` bounds the arrivals, those at its line and at later ones included
  pub record Leaves (f hi p : ℕ) (cap s0 : Seen) (e : WayOut) (u : State) (most : ℕ) : Type 0 where
    pub weight : ℕ
    pub less : weight ≤ most
    pub seen : Seen
    pub capped : IsBelow seen cap
    pub else_same : (g q : ℕ) → (g ≡ f → ⊥) ⊎ ((q < p) ⊎ (hi ≤ q)) → seen g q ≤ s0 g q
    pub comes : Comes s Q weight (f, exit_place (s.lines f) hi e) u (seen_at (f, exit_place (s.lines f) hi e) seen)

  -- what all runs from a window's line on show of the window
  pub record Passing (f hi p : ℕ) (cap : Seen) (ls : List Line) (w : ℕ) (t : State) (s0 : Seen) : Type 0 where
    pub safe : Safe s ls w t
    pub onward : (e : WayOut) (u : State) (v : ℕ) → Way s.place ls t e u v → (v ≤ w) × Leaves f hi p cap s0 e u (w - v)

  -- ---- a run made from the ways through a window

  local_move : (l : Line) (f p : ℕ) (t u : State) → IsLocal (form_of l) → t.ended ≡ None → Does s.place (form_of l) t u → IsBytes u → Moves s l (f, p) t (f, next (s.lines f) (form_of l) p t.regs) u
  local_move l f p t u i run d b = record { running = run; goes = local_goes s (form_of l) (f, p) (f, next (s.lines f) (form_of l) p t.regs) t u i (refl, d); bytes = b }

  stay : (l : Line) (f : Form) (t : State) → form_of l ≡ f → Does s.place f t t → Does s.place (form_of l) t t
  stay l f t e d = subst (λ (x : Form). Does s.place x t t) (sym e) d

  stayed : (l : Line) (f : Form) (t u : State) → form_of l ≡ f → Does s.place (form_of l) t u → Does s.place f t u
  stayed l f t u e d = subst (λ (x : Form). Does s.place x t u) e d

  weight_is : (l : Line) (f : Form) (t : State) → form_of l ≡ f → weight_of (form_of l) t ≡ weight_of f t
  weight_is l f t e = ap (λ (x : Form). weight_of x t) e

  pub build : (f hi : ℕ) (ls : List Line) (p w v : ℕ) (t : State) (s0 : Seen) → HasAt (s.lines f) p ls → AreGood ls → p + length ls ≡ hi → t.ended ≡ None → IsBytes t → Safe s ls v t → v ≤ w
      → ((e : WayOut) (u : State) (x : ℕ) (r : Seen) → Way s.place ls t e u x → IsBelow s0 r → (length ls ≡ 0) ⊎ IsBelow (seen_at (f, settle (s.lines f) p) s0) r → Comes s Q (w - x) (f, exit_place (s.lines f) hi e) u (seen_at (f, exit_place (s.lines f) hi e) r))
      → Comes s Q w (f, settle (s.lines f) p) t (seen_at (f, settle (s.lines f) p) s0)
  build f hi [] p w v t s0 has good e run bytes safe_end le go =
      let e1 : hi ≡ p = omega (arith, e) in
      subst (λ (h : ℕ). Comes s Q w (f, settle (s.lines f) h) t (seen_at (f, settle (s.lines f) h) s0)) e1 (weaken s Q w (omega arith) (go Behind t 0 s0 ends (λ g q. omega arith) (inl refl)))
  build f hi (l ∷ ls) p w v t s0 has good e run bytes (safe_line {v = x} i st le k) lw go =
      let local = passed_local (form_of l) i in
      let first = leads s low no_parts l t good.0.fit good.0.byte local st run in
      let at : settle (s.lines f) p ≡ p = settle_line (s.lines f) p l (inner_instruction l good.0.inner) has.0 in
      subst (λ (n : ℕ). Comes s Q w (f, n) t (seen_at (f, n) s0)) (sym at)
      (on {w = w} {v = w - weight_of (form_of l) t} {seen = seen_at (f, p) s0} l has.0 st (weight_of (form_of l) t) (local_weighs s (form_of l) t local) (omega (arith, le, lw)) (f, next (s.lines f) (form_of l) p t.regs) first.state (local_move l f p t first.state local run first.does first.bytes) (λ q u m.
      let d = goes_local s (form_of l) (f, p) q t u local m.goes in
      let to : q ≡ (f, settle (s.lines f) (suc p)) = d.0 ∙ ap (λ (n : ℕ). (f, n)) (passed_next (s.lines f) (form_of l) p t.regs i) in
      subst (λ (y : Place). Comes s Q (w - weight_of (form_of l) t) y u (seen_at y (seen_at (f, p) s0))) (sym to)
      (build f hi ls (suc p) (w - weight_of (form_of l) t) x u (seen_at (f, p) s0) has.1 good.1 (omega (arith, e)) (still_running t u (does_shown s.place (form_of l) t u i run d.1) run) m.bytes (k u d.1 m.bytes) (omega (arith, le, lw)) (λ e2 y z r way le0 le1.
      weaken s Q (w - weight_of (form_of l) t - z) (omega arith) (go e2 y (weight_of (form_of l) t + z) r (goes i d.1 m.bytes way) (λ g q. omega (arith, le0 g q, seen_grows (f, p) s0 g q)) (inr (subst (λ (n : ℕ). IsBelow (seen_at (f, n) s0) r) (sym at) le0)))))))
  build f hi (l ∷ ls) p w v t s0 has good e run bytes (safe_jump j f0 st le) lw go =
      let local = inner_local (form_of l) good.0.inner in
      let at : settle (s.lines f) p ≡ p = settle_line (s.lines f) p l (inner_instruction l good.0.inner) has.0 in
      let one : weight_of (form_of l) t ≡ 1 = weight_is l (Jump j) t f0 in
      subst (λ (n : ℕ). Comes s Q w (f, n) t (seen_at (f, n) s0)) (sym at)
      (on {w = w} {v = w - 1} {seen = seen_at (f, p) s0} l has.0 st (weight_of (form_of l) t) (local_weighs s (form_of l) t local) (omega (arith, le, lw, one)) (f, next (s.lines f) (form_of l) p t.regs) t (local_move l f p t t local run (stay l (Jump j) t f0 refl) bytes) (λ q u m.
      let d = goes_local s (form_of l) (f, p) q t u local m.goes in
      let to : q ≡ (f, settle (s.lines f) (labelled (s.lines f) j)) = d.0 ∙ ap (λ (n : ℕ). (f, n)) (jump_next (s.lines f) l j p t f0) in
      let same : u ≡ t = stayed l (Jump j) t u f0 d.1 in
      subst (λ (y : Place). Comes s Q (w - 1) y u (seen_at y (seen_at (f, p) s0))) (sym to)
      (subst (λ (x : State). Comes s Q (w - 1) (f, settle (s.lines f) (labelled (s.lines f) j)) x (seen_at (f, settle (s.lines f) (labelled (s.lines f) j)) (seen_at (f, p) s0))) (sym same)
      (go (ToLabel j) t 1 (seen_at (f, p) s0) (jumps j f0) (seen_grows (f, p) s0) (inr (subst (λ (n : ℕ). IsBelow (seen_at (f, n) s0) (seen_at (f, p) s0)) (sym at) (λ g q. omega arith)))))))
  build f hi (l ∷ ls) p w v t s0 has good e run bytes (safe_branch {v = x} op j f0 st le k) lw go =
      let local = inner_local (form_of l) good.0.inner in
      let at : settle (s.lines f) p ≡ p = settle_line (s.lines f) p l (inner_instruction l good.0.inner) has.0 in
      let two : weight_of (form_of l) t ≡ 2 = weight_is l (Branch op j) t f0 in
      subst (λ (n : ℕ). Comes s Q w (f, n) t (seen_at (f, n) s0)) (sym at)
      (on {w = w} {v = w - 2} {seen = seen_at (f, p) s0} l has.0 st (weight_of (form_of l) t) (local_weighs s (form_of l) t local) (omega (arith, le, lw, two)) (f, next (s.lines f) (form_of l) p t.regs) t (local_move l f p t t local run (stay l (Branch op j) t f0 refl) bytes) (λ q u m.
      let d = goes_local s (form_of l) (f, p) q t u local m.goes in
      let same : u ≡ t = stayed l (Branch op j) t u f0 d.1 in
      subst (λ (y : Place). Comes s Q (w - 2) y u (seen_at y (seen_at (f, p) s0))) (sym d.0)
      (subst (λ (y : State). Comes s Q (w - 2) (f, next (s.lines f) (form_of l) p t.regs) y (seen_at (f, next (s.lines f) (form_of l) p t.regs) (seen_at (f, p) s0))) (sym same)
      (turn at (is_taken op t.regs) refl (λ z.
      build f hi ls (suc p) (w - 2) x t (seen_at (f, p) s0) has.1 good.1 (omega (arith, e)) run bytes (k z) (omega (arith, le, lw)) (λ e2 y n r way le0 le1.
      weaken s Q (w - 2 - n) (omega arith) (go e2 y (2 + n) r (passes op j f0 z way) (λ g q. omega (arith, le0 g q, seen_grows (f, p) s0 g q)) (inr (subst (λ (n : ℕ). IsBelow (seen_at (f, n) s0) r) (sym at) le0)))))))))
    where
      turn : settle (s.lines f) p ≡ p → (b : Bool) → is_taken op t.regs ≡ b → (is_taken op t.regs ≡ false → Comes s Q (w - 2) (f, settle (s.lines f) (suc p)) t (seen_at (f, settle (s.lines f) (suc p)) (seen_at (f, p) s0)))
          → Comes s Q (w - 2) (f, next (s.lines f) (form_of l) p t.regs) t (seen_at (f, next (s.lines f) (form_of l) p t.regs) (seen_at (f, p) s0))
      turn at true z pass = subst (λ (n : ℕ). Comes s Q (w - 2) (f, n) t (seen_at (f, n) (seen_at (f, p) s0))) (sym (branch_next (s.lines f) l op j p t true f0 z))
          (go (ToLabel j) t 2 (seen_at (f, p) s0) (branches op j f0 z) (seen_grows (f, p) s0) (inr (subst (λ (n : ℕ). IsBelow (seen_at (f, n) s0) (seen_at (f, p) s0)) (sym at) (λ g q. omega arith))))
      turn at false z pass = subst (λ (n : ℕ). Comes s Q (w - 2) (f, n) t (seen_at (f, n) (seen_at (f, p) s0))) (sym (branch_next (s.lines f) l op j p t false f0 z)) (pass z)

  -- ---- what a run shows of a window

  record First (f p w : ℕ) (l : Line) (t : State) (seen : Seen) : Type 0 where
    v : ℕ
    steady : IsSteady s l t
    less : weight_of (form_of l) t + v ≤ w
    running : t.ended ≡ None
    rest : (q : Place) (u : State) → Moves s l (f, p) t q u → Comes s Q v q u (seen_at q seen)

  first : (f p w : ℕ) (l : Line) (t : State) (seen : Seen) → slice_get (s.lines f) p ≡ Some l → IsInner (form_of l) → (Q (f, p) t seen → ⊥) → Comes s Q w (f, p) t seen → First f p w l t seen
  first f p w l t seen h i never (here q ca) = absurd (never q)
  first f p w l t seen h i never (on {v = v} l2 h2 st c wc le q0 u0 m0 k) =
      let same : l2 ≡ l = one l2 l (sym h2 ∙ h) in
      let is : c ≡ weight_of (form_of l) t = weighs_local s (form_of l) t c (inner_local (form_of l) i) (subst (λ (j : Line). Weighs s (form_of j) t c) same wc) in
      record {
        v = v;
        steady = subst (λ (j : Line). IsSteady s j t) same st;
        less = subst (λ (n : ℕ). n + v ≤ w) is le;
        running = m0.running;
        rest = λ q u m. k q u (subst (λ (j : Line). Moves s j (f, p) t q u) (sym same) m);
      }
    where
      one : (x y : Line) → Some x ≡ Some y → x ≡ y
      one x y e = cc

  -- there is room for one more arrival at each line of the window from p on
  abbrev pub HasSpace : ℕ → ℕ → ℕ → Seen → Seen → Type 0
  HasSpace f hi p r cap = (q : ℕ) → p ≤ q → q < hi → suc (r f q) ≤ cap f q

  passed_else : (f hi p : ℕ) (s0 : Seen) → p < hi → (g q : ℕ) → (g ≡ f → ⊥) ⊎ ((q < p) ⊎ (hi ≤ q)) → seen_at (f, p) s0 g q ≤ s0 g q
  passed_else f hi p s0 lt g q (inl h) = omega (arith, seen_other (f, p) s0 g q h)
  passed_else f hi p s0 lt g q (inr h) = omega (arith, seen_else (f, p) s0 g q (λ e. differs h e))
    where
      differs : (q < p) ⊎ (hi ≤ q) → q ≡ p → ⊥
      differs (inl x) e = omega (arith, x, e)
      differs (inr x) e = omega (arith, x, e, lt)

  further : (f hi p : ℕ) (cap s0 : Seen) (e : WayOut) (u : State) (most more : ℕ) → p < hi → most ≤ more → Leaves f hi (suc p) cap (seen_at (f, p) s0) e u most → Leaves f hi p cap s0 e u more
  further f hi p cap s0 e u most more lt le o = record { weight = o.weight; less = omega (arith, o.less, le); seen = o.seen; capped = o.capped; else_same = λ g q h. omega (arith, o.else_same g q (wider g q h), passed_else f hi p s0 lt g q h); comes = o.comes }
    where
      wider : (g q : ℕ) → (g ≡ f → ⊥) ⊎ ((q < p) ⊎ (hi ≤ q)) → (g ≡ f → ⊥) ⊎ ((q < suc p) ⊎ (hi ≤ q))
      wider g q (inl h) = inl h
      wider g q (inr (inl h)) = inr (inl (omega (arith, h)))
      wider g q (inr (inr h)) = inr (inr h)

  by_kind : (f hi : ℕ) (l : Line) (ls : List Line) (p w : ℕ) (t : State) (cap s0 : Seen) → p < hi → IsGood l → IsBytes t → IsBelow (seen_at (f, p) s0) cap
      → ((v : ℕ) (u : State) → shown_by u ≡ shown_by t → IsBytes u → Comes s Q v (f, settle (s.lines f) (suc p)) u (seen_at (f, settle (s.lines f) (suc p)) (seen_at (f, p) s0)) → Passing f hi (suc p) cap ls v u (seen_at (f, p) s0))
      → InnerKind l → First f p w l t (seen_at (f, p) s0) → Passing f hi p cap (l ∷ ls) w t s0
  by_kind f hi l ls p w t cap s0 lt good bytes capped inner (passed i) r = record {
    safe = safe_line {v = r.v} i r.steady r.less (λ u d b. (sub u d b).safe);
    onward = λ e2 u v way. walked e2 u v way;
  }
    where
      sub : (u : State) → Does s.place (form_of l) t u → IsBytes u → Passing f hi (suc p) cap ls r.v u (seen_at (f, p) s0)
      sub u d b = inner r.v u (does_shown s.place (form_of l) t u i r.running d) b
          (subst (λ (n : ℕ). Comes s Q r.v (f, n) u (seen_at (f, n) (seen_at (f, p) s0))) (passed_next (s.lines f) (form_of l) p t.regs i) (r.rest (f, next (s.lines f) (form_of l) p t.regs) u (local_move l f p t u (passed_local (form_of l) i) r.running d b)))

      walked : (e2 : WayOut) (u : State) (v : ℕ) → Way s.place (l ∷ ls) t e2 u v → (v ≤ w) × Leaves f hi p cap s0 e2 u (w - v)
      walked e2 u v (goes {u = y} {w = x} i2 d b way) = let o = (sub y d b).onward e2 u x way in (omega (arith, o.0, r.less), further f hi p cap s0 e2 u (r.v - x) (w - (weight_of (form_of l) t + x)) lt (omega (arith, o.0, r.less)) o.1)
      walked e2 u v (jumps j f0) = absurd (subst IsPassed f0 i)
      walked e2 u v (branches op j f0 z) = absurd (subst IsPassed f0 i)
      walked e2 u v (passes op j f0 z way) = absurd (subst IsPassed f0 i)
  by_kind f hi l ls p w t cap s0 lt good bytes capped inner (jump j f0) r = record {
    safe = safe_jump j f0 r.steady (omega (arith, r.less, weight_is l (Jump j) t f0));
    onward = λ e2 u v way. walked e2 u v way;
  }
    where
      there : Comes s Q r.v (f, settle (s.lines f) (labelled (s.lines f) j)) t (seen_at (f, settle (s.lines f) (labelled (s.lines f) j)) (seen_at (f, p) s0))
      there = subst (λ (n : ℕ). Comes s Q r.v (f, n) t (seen_at (f, n) (seen_at (f, p) s0))) (jump_next (s.lines f) l j p t f0)
          (r.rest (f, next (s.lines f) (form_of l) p t.regs) t (local_move l f p t t (inner_local (form_of l) good.inner) r.running (stay l (Jump j) t f0 refl) bytes))

      walked : (e2 : WayOut) (u : State) (v : ℕ) → Way s.place (l ∷ ls) t e2 u v → (v ≤ w) × Leaves f hi p cap s0 e2 u (w - v)
      walked e2 u v (jumps k f1) =
          let same : j ≡ k = label j k (sym f0 ∙ f1) in
          subst (λ (x : ℕ). (1 ≤ w) × Leaves f hi p cap s0 (ToLabel x) t (w - 1)) same (omega (arith, r.less, weight_is l (Jump j) t f0), record { weight = r.v; less = omega (arith, r.less, weight_is l (Jump j) t f0); seen = seen_at (f, p) s0; capped = capped; else_same = passed_else f hi p s0 lt; comes = there })
        where
          label : (j k : ℕ) → Jump j ≡ Jump k → j ≡ k
          label j k e = cc
      walked e2 u v (goes i d b way) = absurd (subst IsPassed f0 i)
      walked e2 u v (branches op k f1 z) = absurd (apart j op k (sym f0 ∙ f1))
        where
          apart : (j : ℕ) (op : Op) (k : ℕ) → Jump j ≡ Branch op k → ⊥
          apart j op k e = cc
      walked e2 u v (passes op k f1 z way) = absurd (apart j op k (sym f0 ∙ f1))
        where
          apart : (j : ℕ) (op : Op) (k : ℕ) → Jump j ≡ Branch op k → ⊥
          apart j op k e = cc
  by_kind f hi l ls p w t cap s0 lt good bytes capped inner (branch op j f0) r = record {
    safe = safe_branch {v = r.v} op j f0 r.steady less2 (λ z. (sub z).safe);
    onward = λ e2 u v way. walked e2 u v way;
  }
    where
      less2 : 2 + r.v ≤ w
      less2 = omega (arith, r.less, weight_is l (Branch op j) t f0)

      there : (b : Bool) → is_taken op t.regs ≡ b → Comes s Q r.v (f, settle (s.lines f) (if b then labelled (s.lines f) j else suc p)) t (seen_at (f, settle (s.lines f) (if b then labelled (s.lines f) j else suc p)) (seen_at (f, p) s0))
      there b z = subst (λ (n : ℕ). Comes s Q r.v (f, n) t (seen_at (f, n) (seen_at (f, p) s0))) (branch_next (s.lines f) l op j p t b f0 z)
          (r.rest (f, next (s.lines f) (form_of l) p t.regs) t (local_move l f p t t (inner_local (form_of l) good.inner) r.running (stay l (Branch op j) t f0 refl) bytes))

      sub : is_taken op t.regs ≡ false → Passing f hi (suc p) cap ls r.v t (seen_at (f, p) s0)
      sub z = inner r.v t refl bytes (there false z)

      ops_same : (op op2 : Op) (j k : ℕ) → Branch op j ≡ Branch op2 k → op ≡ op2
      ops_same op op2 j k e = cc

      labels_same : (op op2 : Op) (j k : ℕ) → Branch op j ≡ Branch op2 k → j ≡ k
      labels_same op op2 j k e = cc

      apart : (j : ℕ) (op : Op) (k : ℕ) → Branch op k ≡ Jump j → ⊥
      apart j op k e = cc

      walked : (e2 : WayOut) (u : State) (v : ℕ) → Way s.place (l ∷ ls) t e2 u v → (v ≤ w) × Leaves f hi p cap s0 e2 u (w - v)
      walked e2 u v (branches op2 k f1 z) =
          let one : op ≡ op2 = ops_same op op2 j k (sym f0 ∙ f1) in
          let two : j ≡ k = labels_same op op2 j k (sym f0 ∙ f1) in
          let z1 : is_taken op t.regs ≡ true = subst (λ (o : Op). is_taken o t.regs ≡ true) (sym one) z in
          subst (λ (x : ℕ). (2 ≤ w) × Leaves f hi p cap s0 (ToLabel x) t (w - 2)) two (omega (arith, less2), record { weight = r.v; less = omega (arith, less2); seen = seen_at (f, p) s0; capped = capped; else_same = passed_else f hi p s0 lt; comes = there true z1 })
      walked e2 u v (passes {w = y} op2 k f1 z way) =
          let one : op ≡ op2 = ops_same op op2 j k (sym f0 ∙ f1) in
          let z1 : is_taken op t.regs ≡ false = subst (λ (o : Op). is_taken o t.regs ≡ false) (sym one) z in
          let o = (sub z1).onward e2 u y way in
          (omega (arith, o.0, less2), further f hi p cap s0 e2 u (r.v - y) (w - (2 + y)) lt (omega (arith, o.0, less2)) o.1)
      walked e2 u v (goes i d b way) = absurd (subst IsPassed f0 i)
      walked e2 u v (jumps k f1) = absurd (apart k op j (sym f0 ∙ f1))

  pub through : (f hi : ℕ) (ls : List Line) (p w : ℕ) (t : State) (cap s0 : Seen) → HasAt (s.lines f) p ls → AreGood ls → p + length ls ≡ hi → IsBytes t → IsBelow s0 cap → HasSpace f hi p s0 cap
      → ((q : Place) (u : State) (r : Seen) → shown_by u ≡ shown_by t → IsBelow r cap → Q q u r → ⊥) → Comes s Q w (f, settle (s.lines f) p) t (seen_at (f, settle (s.lines f) p) s0) → Passing f hi p cap ls w t s0
  through f hi [] p w t cap s0 has good e bytes below room never c = record { safe = safe_end; onward = λ e2 u v way. walked e2 u v way }
    where
      walked : (e2 : WayOut) (u : State) (v : ℕ) → Way s.place [] t e2 u v → (v ≤ w) × Leaves f hi p cap s0 e2 u (w - v)
      walked e2 u v ends = (omega arith, record { weight = w; less = omega arith; seen = s0; capped = below; else_same = λ g q h. omega arith; comes = subst (λ (h : ℕ). Comes s Q w (f, settle (s.lines f) h) t (seen_at (f, settle (s.lines f) h) s0)) (let e1 : p ≡ hi = omega (arith, e) in e1) c })
  through f hi (l ∷ ls) p w t cap s0 has good e bytes below room never c =
      let lt : p < hi = omega (arith, e) in
      let capped : IsBelow (seen_at (f, p) s0) cap = seen_room (f, p) s0 cap below (room p (omega arith) lt) in
      let at : settle (s.lines f) p ≡ p = settle_line (s.lines f) p l (inner_instruction l good.0.inner) has.0 in
      by_kind f hi l ls p w t cap s0 lt good.0 bytes capped
      (λ v u same b c2. through f hi ls (suc p) v u cap (seen_at (f, p) s0) has.1 good.1 (omega (arith, e)) b capped (λ q le h. omega (arith, room q (omega (arith, le)) h, seen_else (f, p) s0 f q (λ x. omega (arith, x, le)))) (λ q x r same2 bb. never q x r (same2 ∙ same) bb) c2)
      (inner_kind l good.0.inner)
      (first f p w l t (seen_at (f, p) s0) has.0 good.0.inner (never (f, p) t (seen_at (f, p) s0) refl capped) (subst (λ (n : ℕ). Comes s Q w (f, n) t (seen_at (f, n) s0)) at c))
