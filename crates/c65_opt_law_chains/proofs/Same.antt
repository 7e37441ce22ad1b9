-- Two codes whose places are the same: what moves from another line do.
use Rattle.std.proofs.Common.{◌≡◌, ℕ, suc, Bool, true, false, if◌then◌else◌, List, [], ◌∷◌, Option, Some, None, ap, ◌∙◌}
use Rattle.c65_base.specs.declared.library.Library.{Library}
use Rattle.c65_mach.specs.State.{Regs}
use Rattle.c65_mach.specs.Step.{is_taken}
use Rattle.c65_code.specs.declared.line.Line.{Line}
use Rattle.c65_code.specs.declared.parts.RegSet.{RegSet}
use Rattle.c65_code.specs.Effects.{ptr4_bytes}
use Rattle.c65_code.specs.Forms.{Form, Mark, Plain, Branch, Jump, Far, Push, Pull, Depth, Return, Run, Enter, Through, Stray, form_of}
use Rattle.c65_code.specs.LineState.{Place, Frame, State}
use Rattle.c65_code.specs.Moves.{settle, labelled, next, Returns, Calls, Goes, Moves}
use Rattle.c65_code.specs.Parts.{union_of}
use Rattle.c65_code.specs.Placement.{Setting}
use Rattle.c65_code.specs.Steady.{IsCallable, IsWithin, IsSteady, HasLines}
use Rattle.c65_code.specs.Weights.{Weighs}
use Rattle.c65_opt_law_follow.proofs.Setup.{side}
use Rattle.c65_opt_law_follow.proofs.Sides.{calm_side}

module _ (s : Setting) (A B : ℕ → List Line) (settles : (g p : ℕ) → settle (A g) p ≡ settle (B g) p) (labels : (g k : ℕ) → labelled (A g) k ≡ labelled (B g) k) where
  pub label_same : (g k : ℕ) → settle (A g) (labelled (A g) k) ≡ settle (B g) (labelled (B g) k)
  label_same g k = settles g (labelled (A g) k) ∙ ap (settle (B g)) (labels g k)

  pub next_same : (g q : ℕ) (form : Form) (regs : Regs) → next (A g) form q regs ≡ next (B g) form q regs
  next_same g q (Branch op k) regs = turn (is_taken op regs)
    where
      turn : (x : Bool) → settle (A g) (if x then labelled (A g) k else suc q) ≡ settle (B g) (if x then labelled (B g) k else suc q)
      turn true = label_same g k
      turn false = settles g (suc q)
  next_same g q (Jump k) regs = label_same g k
  next_same g q _ regs = settles g (suc q)

  returns_same : (frames : List Frame) (p q : Place) (t u : State) → Returns (side s A) frames p t q u → Returns (side s B) frames p t q u
  returns_same [] p q t u h = h
  returns_same (frame ∷ frames) p q t u h = h

  calls_same : (o : Option Library) (f : ℕ) (reads gives : RegSet) (p q : Place) (t u : State) → Calls (side s A) o f reads gives p t q u → Calls (side s B) o f reads gives p t q u
  calls_same None f reads gives p q t u h = record {
    to = h.to ∙ ap (λ (x : ℕ). (f, x)) (settles f 0);
    keeps = h.keeps;
    pushed = h.pushed;
    frames = h.frames ∙ ap (λ (x : ℕ). record { back = (p.0, x); pushed = t.pushed; gives = gives } ∷ t.frames) (settles p.0 (suc p.1));
  }
  calls_same (Some library) f reads gives p q t u h = (h.0 ∙ ap (λ (x : ℕ). (p.0, x)) (settles p.0 (suc p.1)), h.1)

  goes_same : (form : Form) (p q : Place) (t u : State) → Goes (side s A) form p t q u → Goes (side s B) form p t q u
  goes_same Mark p q t u h = h
  goes_same (Far i) p q t u h = h
  goes_same Stray p q t u h = h
  goes_same Return p q t u h = returns_same t.frames p q t u h
  goes_same (Enter f reads gives) p q t u h = calls_same (s.library f) f reads gives p q t u h
  goes_same (Through reads gives) p q t u h = (h.0, h.1, calls_same (s.library h.0) h.0 (union_of reads ptr4_bytes) gives p q t u h.2)
  goes_same (Plain op mode operand) p q t u h = (h.0 ∙ ap (λ (x : ℕ). (p.0, x)) (settles p.0 (suc p.1)), h.1)
  goes_same (Branch op k) p q t u h = (h.0 ∙ ap (λ (x : ℕ). (p.0, x)) (next_same p.0 p.1 (Branch op k) t.regs), h.1)
  goes_same (Jump k) p q t u h = (h.0 ∙ ap (λ (x : ℕ). (p.0, x)) (label_same p.0 k), h.1)
  goes_same Push p q t u h = (h.0 ∙ ap (λ (x : ℕ). (p.0, x)) (settles p.0 (suc p.1)), h.1)
  goes_same Pull p q t u h = (h.0 ∙ ap (λ (x : ℕ). (p.0, x)) (settles p.0 (suc p.1)), h.1)
  goes_same Depth p q t u h = (h.0 ∙ ap (λ (x : ℕ). (p.0, x)) (settles p.0 (suc p.1)), h.1)
  goes_same (Run r) p q t u h = (h.0 ∙ ap (λ (x : ℕ). (p.0, x)) (settles p.0 (suc p.1)), h.1)

  pub moves_same : (l : Line) (p q : Place) (t u : State) → Moves (side s A) l p t q u → Moves (side s B) l p t q u
  moves_same l p q t u h = record { running = h.running; goes = goes_same (form_of l) p q t u h.goes; bytes = h.bytes }

  pub weighs_same : (form : Form) (t : State) (c : ℕ) → Weighs (side s A) form t c → Weighs (side s B) form t c
  weighs_same (Branch op k) t c h = h
  weighs_same (Run r) t c h = h
  weighs_same (Enter f reads gives) t c h = h
  weighs_same (Through reads gives) t c h = h
  weighs_same Mark t c h = h
  weighs_same (Plain op mode operand) t c h = h
  weighs_same (Jump k) t c h = h
  weighs_same (Far i) t c h = h
  weighs_same Push t c h = h
  weighs_same Pull t c h = h
  weighs_same Depth t c h = h
  weighs_same Return t c h = h
  weighs_same Stray t c h = h

  module _ (there : (g : ℕ) → HasLines (A g) → HasLines (B g)) where
    callable_same : (o : Option Library) (f : ℕ) (reads : RegSet) (t : State) → IsCallable (side s A) o f reads t → IsCallable (side s B) o f reads t
    callable_same None f reads t h = there f h
    callable_same (Some library) f reads t h = h

    within_same : (form : Form) (t : State) → IsWithin (side s A) form t → IsWithin (side s B) form t
    within_same (Enter f reads gives) t h = callable_same (s.library f) f reads t h
    within_same (Through reads gives) t h = (h.0, h.1, callable_same (s.library h.0) h.0 reads t h.2)
    within_same (Plain op mode operand) t h = h
    within_same (Branch op k) t h = h
    within_same (Jump k) t h = h
    within_same Push t h = h
    within_same Pull t h = h
    within_same Depth t h = h
    within_same Return t h = h
    within_same (Run r) t h = h
    within_same Mark t h = h
    within_same (Far i) t h = h
    within_same Stray t h = h

    pub steady_same : (l : Line) (t : State) → IsSteady (side s A) l t → IsSteady (side s B) l t
    steady_same l t h = record { calm = calm_side s A B t h.calm; within = within_same (form_of l) t h.within }
