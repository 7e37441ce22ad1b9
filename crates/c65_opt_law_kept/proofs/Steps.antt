-- Operations in a row: what they lead to, as ways through them.
use Rattle.std.proofs.Common.{◌≡◌, ℕ, suc, ◌+◌, ◌-◌, ◌≤◌, ◌⊎◌, List, [], ◌∷◌, length, Option, Some, None, true, false, refl, sym, subst, ap, ◌∙◌, arith}
use Rattle.std.specs.Prelude.{slice_get}
use Rattle.c65_mach.specs.declared.rows.Op.{Op}
use Rattle.c65_code.specs.declared.line.Line.{Line}
use Rattle.c65_code.specs.Forms.{Form, Plain, Branch, Jump, Push, Pull, Depth, form_of}
use Rattle.c65_code.specs.LineState.{State, IsBytes}
use Rattle.c65_code.specs.Moves.{Does}
use Rattle.c65_code.specs.Parts.{no_parts}
use Rattle.c65_code.specs.Placement.{Placement, Setting}
use Rattle.c65_code.specs.Segments.{is_closing}
use Rattle.c65_opt_law_near.specs.Laws.{IsLow, IsOperation}
use Rattle.c65_opt_law_straight.proofs.Rows.{does_one}
use Rattle.c65_optarith_law.specs.Straight.{GoesOn, Steps, Straight, done, by}
use Rattle.c65_opt_law_follow.specs.Windows.{WayOut, Behind, ToLabel, IsPassed, IsInner, AreInner, weight_of, Way, ends, goes, jumps, branches, passes, Safe, safe_end, safe_line, safe_jump, safe_branch}
use Rattle.c65_opt_law_follow.proofs.Inner.{passed_local, does_shown, still_running}
use Rattle.c65_opt_law_follow.proofs.Lines.{leads}
use Rattle.c65_opt_law_follow.proofs.Ways.{AreGood}

-- an operation behind which the next line comes
abbrev pub IsStep : Form → Type 0
IsStep (Plain op mode operand) = Unit {0}
IsStep Push = Unit {0}
IsStep Pull = Unit {0}
IsStep Depth = Unit {0}
IsStep form = ⊥

abbrev pub AreSteps : List Line → Type 0
AreSteps [] = Unit {0}
AreSteps (line ∷ lines) = IsStep (form_of line) × AreSteps lines

pub step_passed : (form : Form) → IsStep form → IsPassed form
step_passed (Plain op mode operand) i = tt
step_passed Push i = tt
step_passed Pull i = tt
step_passed Depth i = tt
step_passed _ i = absurd i

step_inner : (form : Form) → IsStep form → IsInner form
step_inner (Plain op mode operand) i = tt
step_inner Push i = tt
step_inner Pull i = tt
step_inner Depth i = tt
step_inner _ i = absurd i

step_operation : (form : Form) → IsStep form → IsOperation form
step_operation (Plain op mode operand) i = tt
step_operation Push i = tt
step_operation Pull i = tt
step_operation Depth i = tt
step_operation _ i = absurd i

step_goes : (form : Form) → IsStep form → GoesOn form
step_goes (Plain op mode operand) i = tt
step_goes Push i = tt
step_goes Pull i = tt
step_goes Depth i = tt
step_goes _ i = absurd i

step_weighs : (form : Form) (t : State) → IsStep form → weight_of form t ≡ 1
step_weighs (Plain op mode operand) t i = refl
step_weighs Push t i = refl
step_weighs Pull t i = refl
step_weighs Depth t i = refl
step_weighs _ t i = absurd i

pub steps_inner : (ls : List Line) → AreSteps ls → AreInner ls
steps_inner [] h = tt
steps_inner (l ∷ ls) h = (step_inner (form_of l) h.0, steps_inner ls h.1)

module _ (s : Setting) (low : IsLow s.place) where
  -- what lines lead to that are safe
  pub record Ran (ls : List Line) (w : ℕ) (t : State) : Type 0 where
    pub state : State
    pub straight : Straight s ls t state
    pub enough : length ls ≤ w

  pub run : (ls : List Line) (w : ℕ) (t : State) → AreGood ls → AreSteps ls → t.ended ≡ None → Safe s ls w t → Ran ls w t
  run [] w t good steps running safe_end = record { state = t; straight = done; enough = omega arith }
  run (l ∷ ls) w t good steps running (safe_line {v = v} i st le k) =
      let first = leads s low no_parts l t good.0.fit good.0.byte (passed_local (form_of l) i) st running in
      let shown = does_shown s.place (form_of l) t first.state i running first.does in
      let rest = run ls v first.state good.1 steps.1 (still_running t first.state shown running) (k first.state first.does first.bytes) in
      let one : weight_of (form_of l) t ≡ 1 = step_weighs (form_of l) t steps.0 in
      record {
        state = rest.state;
        straight = by (record { onward = step_goes (form_of l) steps.0; running = running; steady = st; does = first.does; bytes = first.bytes }) rest.straight;
        enough = omega (arith, le, one, rest.enough);
      }
  run (l ∷ ls) w t good steps running (safe_jump k e st le) = absurd (subst IsStep e steps.0)
  run (l ∷ ls) w t good steps running (safe_branch op k e st le g) = absurd (subst IsStep e steps.0)

  pub way_of : {ls : List Line} {t u : State} → Straight s ls t u → AreSteps ls → Way s.place ls t Behind u (length ls)
  way_of done steps = ends
  way_of {t = t} (by {line = l} {lines = ls} {u = m} step rest) steps =
      let one : weight_of (form_of l) t + length ls ≡ length (l ∷ ls) = omega (arith, step_weighs (form_of l) t steps.0) in
      subst (Way s.place (l ∷ ls) t Behind _) one (goes (step_passed (form_of l) steps.0) step.does step.bytes (way_of rest steps.1))

  -- there is one way through them
  pub record IsOnly (ls : List Line) (u : State) (e : WayOut) (x : State) (v : ℕ) : Type 0 where
    pub behind : e ≡ Behind
    pub state : x ≡ u
    pub weight : v ≡ length ls

  nowhere : {t u : State} → Straight s [] t u → t ≡ u
  nowhere done = refl

  split : {l : Line} {ls : List Line} {t u : State} → Straight s (l ∷ ls) t u → (m : State) × Steps s l t m × Straight s ls m u
  split (by {u = m} step rest) = (m, step, rest)

  pub only_way : (ls : List Line) (t u : State) (e : WayOut) (x : State) (v : ℕ) → Straight s ls t u → AreSteps ls → Way s.place ls t e x v → IsOnly ls u e x v
  only_way ls t u e x v straight steps ends = record { behind = refl; state = nowhere straight; weight = refl }
  only_way ls t u e x v straight steps (goes {line = l} {lines = rest} {u = m} {w = w} i d b way) =
      let first = split straight in
      let same : first.0 ≡ m = does_one s.place (form_of l) t first.0 m (step_operation (form_of l) steps.0) first.1.does d in
      let o = only_way rest m u e x w (subst (λ (y : State). Straight s rest y u) same first.2) steps.1 way in
      record { behind = o.behind; state = o.state; weight = omega (arith, step_weighs (form_of l) t steps.0, o.weight) }
  only_way ls t u e x v straight steps (jumps k f) = absurd (subst IsStep f steps.0)
  only_way ls t u e x v straight steps (branches op k f z) = absurd (subst IsStep f steps.0)
  only_way ls t u e x v straight steps (passes op k f z way) = absurd (subst IsStep f steps.0)

  pub safe_of : (ls : List Line) (w : ℕ) (t u : State) → Straight s ls t u → AreSteps ls → length ls ≤ w → Safe s ls w t
  safe_of [] w t u straight steps le = safe_end
  safe_of (l ∷ ls) w t u straight steps le =
      let first = split straight in
      safe_line {v = w - 1} (step_passed (form_of l) steps.0) first.1.steady (omega (arith, le, step_weighs (form_of l) t steps.0)) (λ m d b.
      let same : first.0 ≡ m = does_one s.place (form_of l) t first.0 m (step_operation (form_of l) steps.0) first.1.does d in
      safe_of ls (w - 1) m u (subst (λ (y : State). Straight s ls y u) same first.2) steps.1 (omega (arith, le)))
