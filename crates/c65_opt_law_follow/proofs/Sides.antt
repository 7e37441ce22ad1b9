-- What is steady in one of two codes is so in the other, where their lines differ alone.
use Rattle.std.proofs.Common.{◌≡◌, ℕ, ◌+◌, ◌≤◌, List, [], ◌∷◌, length, refl, sym, subst, ap, ◌∙◌, arith}
use Rattle.c65_mach.specs.declared.rows.Op.{Op}
use Rattle.c65_code.specs.declared.line.Line.{Line}
use Rattle.c65_code.specs.Forms.{Form, Plain, Branch, Jump, Push, Pull, Depth, Run, IsLocal, form_of}
use Rattle.c65_code.specs.LineState.{State, IsBytes}
use Rattle.c65_code.specs.Moves.{Does}
use Rattle.c65_code.specs.Placement.{Setting}
use Rattle.c65_code.specs.Steady.{IsCalm, IsWithin, IsSteady}
use Rattle.c65_opt_law_follow.specs.Windows.{IsPassed, IsInner, Safe, safe_end, safe_line, safe_jump, safe_branch}
use Rattle.c65_opt_law_follow.proofs.Inner.{passed_local}
use Rattle.c65_opt_law_follow.proofs.Setup.{side}

module _ (s : Setting) (A B : ℕ → List Line) where
  pub calm_side : (t : State) → IsCalm (side s A) t → IsCalm (side s B) t
  calm_side t c = record { low = c.low; high = c.high; hard = c.hard; constant = c.constant; bytes = c.bytes }

  within_side : (form : Form) (t : State) → IsLocal form → IsWithin (side s A) form t → IsWithin (side s B) form t
  within_side (Plain op mode operand) t i h = h
  within_side (Branch op l) t i h = h
  within_side (Jump l) t i h = h
  within_side Push t i h = h
  within_side Pull t i h = h
  within_side Depth t i h = h
  within_side (Run r) t i h = h
  within_side _ t i h = absurd i

  pub steady_side : (l : Line) (t : State) → IsLocal (form_of l) → IsSteady (side s A) l t → IsSteady (side s B) l t
  steady_side l t i st = record { calm = calm_side t st.calm; within = within_side (form_of l) t i st.within }

  local_by : (l : Line) (f : Form) → form_of l ≡ f → IsLocal f → IsLocal (form_of l)
  local_by l f e i = subst IsLocal (sym e) i

  pub safe_side : (ls : List Line) (w : ℕ) (t : State) → Safe (side s A) ls w t → Safe (side s B) ls w t
  safe_side [] w t safe_end = safe_end
  safe_side (l ∷ ls) w t (safe_line {v = v} i st le k) = safe_line {v = v} i (steady_side l t (passed_local (form_of l) i) st) le (λ u d b. safe_side ls v u (k u d b))
  safe_side (l ∷ ls) w t (safe_jump k e st le) = safe_jump k e (steady_side l t (local_by l (Jump k) e tt) st) le
  safe_side (l ∷ ls) w t (safe_branch {v = v} op k e st le g) = safe_branch {v = v} op k e (steady_side l t (local_by l (Branch op k) e tt) st) le (λ z. safe_side ls v t (g z))
