-- Jumps and branches, which lead to one place and leave the state as it is.
use Rattle.std.proofs.Common.{◌≡◌, ℕ, suc, Bool, if◌then◌else◌, List, None, refl, sym, subst, ap, ◌∙◌}
use Rattle.c65_mach.specs.declared.rows.Op.{Op}
use Rattle.c65_mach.specs.Step.{is_taken}
use Rattle.c65_code.specs.declared.line.Line.{Line}
use Rattle.c65_code.specs.Forms.{Form, Branch, Jump, form_of}
use Rattle.c65_code.specs.LineState.{Place, State, IsBytes}
use Rattle.c65_code.specs.Moves.{settle, labelled, Goes, Moves}
use Rattle.c65_code.specs.Placement.{Setting}
use Rattle.c65_code.specs.Steady.{IsWithin}
use Rattle.c65_code.specs.Weights.{Weighs}
use Rattle.c65_opt_law_follow.proofs.Setup.{side}

-- from a place of a function a line leads to this one, with this weight
pub record Sends (s : Setting) (lines : ℕ → List Line) (f at : ℕ) (line : Line) (t : State) (to c : ℕ) : Type 0 where
  pub does : t.ended ≡ None → IsBytes t → Moves (side s lines) line (f, at) t (f, to) t
  pub only : (q : Place) (u : State) → Moves (side s lines) line (f, at) t q u → (q ≡ (f, to)) × (u ≡ t)
  pub within : IsWithin (side s lines) (form_of line) t
  pub weighs : Weighs (side s lines) (form_of line) t c
  pub weight : (d : ℕ) → Weighs (side s lines) (form_of line) t d → d ≡ c

module _ (s : Setting) (lines : ℕ → List Line) (f at : ℕ) (line : Line) (t : State) where
  pub jump_sends : (k : ℕ) → form_of line ≡ Jump k → Sends s lines f at line t (settle (lines f) (labelled (lines f) k)) 1
  jump_sends k e = record {
    does = λ running bytes. record { running = running; goes = subst (λ (form : Form). Goes (side s lines) form (f, at) t (f, settle (lines f) (labelled (lines f) k)) t) (sym e) (refl, refl); bytes = bytes };
    only = λ q u mv. subst (λ (form : Form). Goes (side s lines) form (f, at) t q u) e mv.goes;
    within = subst (λ (form : Form). IsWithin (side s lines) form t) (sym e) tt;
    weighs = subst (λ (form : Form). Weighs (side s lines) form t 1) (sym e) refl;
    weight = λ d h. subst (λ (form : Form). Weighs (side s lines) form t d) e h;
  }

  pub branch_sends : (op : Op) (k : ℕ) (b : Bool) → form_of line ≡ Branch op k → is_taken op t.regs ≡ b → Sends s lines f at line t (settle (lines f) (if b then labelled (lines f) k else suc at)) 2
  branch_sends op k b e z =
      let to : (f, settle (lines f) (if is_taken op t.regs then labelled (lines f) k else suc at)) ≡ (f, settle (lines f) (if b then labelled (lines f) k else suc at)) = ap (λ (x : Bool). (f, settle (lines f) (if x then labelled (lines f) k else suc at))) z in
      record {
        does = λ running bytes. record { running = running; goes = subst (λ (form : Form). Goes (side s lines) form (f, at) t (f, settle (lines f) (if b then labelled (lines f) k else suc at)) t) (sym e) (sym to, refl); bytes = bytes };
        only = λ q u mv. let goes = subst (λ (form : Form). Goes (side s lines) form (f, at) t q u) e mv.goes in (goes.0 ∙ to, goes.1);
        within = subst (λ (form : Form). IsWithin (side s lines) form t) (sym e) tt;
        weighs = subst (λ (form : Form). Weighs (side s lines) form t 2) (sym e) refl;
        weight = λ d h. subst (λ (form : Form). Weighs (side s lines) form t d) e h;
      }
