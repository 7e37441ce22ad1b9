-- Lines that act on registers alone.
use Rattle.std.proofs.Common.{◌≡◌, ℕ, ◌-◌, ◌≤◌, List, [], ◌∷◌, length, refl, sym, subst, ap, ◌∙◌, arith}
use Rattle.c65_mach.specs.State.{Regs}
use Rattle.c65_code.specs.declared.line.Line.{Line}
use Rattle.c65_code.specs.Forms.{form_of}
use Rattle.c65_code.specs.LineState.{State, IsBytes}
use Rattle.c65_code.specs.Moves.{Does}
use Rattle.c65_code.specs.Placement.{Setting}
use Rattle.c65_code.specs.Steady.{IsCalm, IsWithin}
use Rattle.c65_opt_law_follow.specs.Windows.{WayOut, Behind, IsPassed, weight_of, Way, ends, goes, jumps, branches, passes, Safe, safe_end, safe_line}

abbrev pub with_regs : State → Regs → State
with_regs t r = record t { regs = r }

-- one after the other
abbrev pub all_acts : List (Regs → Regs) → Regs → Regs
all_acts [] r = r
all_acts (act ∷ acts) r = all_acts acts (act r)

module _ (s : Setting) where
  pub record Acts (line : Line) (act : Regs → Regs) : Type 0 where
    pub passed : IsPassed (form_of line)
    pub within : (t : State) → IsWithin s (form_of line) t
    pub does : (t : State) → Does s.place (form_of line) t (with_regs t (act t.regs))
    pub only : (t u : State) → Does s.place (form_of line) t u → u ≡ with_regs t (act t.regs)
    pub weight : (t : State) → weight_of (form_of line) t ≡ 1

  abbrev pub AllAct : List Line → List (Regs → Regs) → Type 0
  AllAct [] [] = Unit {0}
  AllAct (line ∷ lines) (act ∷ acts) = Acts line act × AllAct lines acts
  AllAct _ _ = ⊥

  calm_on : (t u : State) (r : Regs) → IsCalm s t → u ≡ with_regs t r → IsBytes u → IsCalm s u
  calm_on t u r calm e bytes =
      subst (IsCalm s) (sym e) (record { low = calm.low; high = calm.high; hard = calm.hard; constant = calm.constant; bytes = subst IsBytes e bytes })

  pub acts_safe : (lines : List Line) (acts : List (Regs → Regs)) (w : ℕ) (t : State) → AllAct lines acts → IsCalm s t → length lines ≤ w → Safe s lines w t
  acts_safe [] acts w t all calm le = safe_end
  acts_safe (line ∷ lines) [] w t all calm le = absurd all
  acts_safe (line ∷ lines) (act ∷ acts) w t all calm le =
      safe_line {v = w - 1} all.0.passed (record { calm = calm; within = all.0.within t }) (omega (arith, le, all.0.weight t)) (λ u d b.
      acts_safe lines acts (w - 1) u all.1 (calm_on t u (act t.regs) calm (all.0.only t u d) b) (omega (arith, le)))

  -- where ways through them lead
  pub record IsThrough (lines : List Line) (acts : List (Regs → Regs)) (t : State) (e : WayOut) (u : State) (w : ℕ) : Type 0 where
    pub behind : e ≡ Behind
    pub state : u ≡ with_regs t (all_acts acts t.regs)
    pub weight : w ≡ length lines
    pub bytes : IsBytes u

  pub acts_through : (lines : List Line) (acts : List (Regs → Regs)) (t : State) (e : WayOut) (u : State) (w : ℕ) → AllAct lines acts → IsBytes t → Way s.place lines t e u w → IsThrough lines acts t e u w
  acts_through lines [] t e u w all bytes ends = record { behind = refl; state = refl; weight = refl; bytes = bytes }
  acts_through lines (act ∷ acts) t e u w all bytes ends = absurd all
  acts_through lines [] t e u w all bytes (goes i d b way) = absurd all
  acts_through lines (act ∷ acts) t e u w all bytes (goes {line = line} {lines = rest} {u = m} {w = v} i d b way) =
      let later = acts_through rest acts m e u v all.1 b way in
      let here : m ≡ with_regs t (act t.regs) = all.0.only t m d in
      record {
        behind = later.behind;
        state = later.state ∙ ap (λ (x : State). with_regs x (all_acts acts x.regs)) here;
        weight = omega (arith, later.weight, all.0.weight t);
        bytes = later.bytes;
      }
  acts_through lines [] t e u w all bytes (jumps l f) = absurd all
  acts_through lines (act ∷ acts) t e u w all bytes (jumps l f) = absurd (subst IsPassed f all.0.passed)
  acts_through lines [] t e u w all bytes (branches op l f z) = absurd all
  acts_through lines (act ∷ acts) t e u w all bytes (branches op l f z) = absurd (subst IsPassed f all.0.passed)
  acts_through lines [] t e u w all bytes (passes op l f z way) = absurd all
  acts_through lines (act ∷ acts) t e u w all bytes (passes op l f z way) = absurd (subst IsPassed f all.0.passed)
