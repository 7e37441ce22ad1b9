-- Ways one behind another, and lines that are no calls.
use Rattle.std.proofs.Common.{◌≡◌, ℕ, suc, ◌+◌, ◌*◌, ◌<◌, ◌≤◌, List, [], ◌∷◌, ◌++◌, length, Some, None, refl, sym, ap, ◌∙◌, subst, arith, length-append}
use Rattle.c65_mach.specs.State.{Regs}
use Rattle.c65_mach.specs.declared.rows.Op.{Op}
use Rattle.c65_mach.specs.declared.rows.Mode.{Mode}
use Rattle.c65_code.specs.declared.line.Operand.{Operand}
use Rattle.c65_meaning.specs.Step.{steps}
use Rattle.c65_code.specs.declared.routine.Routine.{Routine}
use Rattle.c65_code.specs.declared.line.Line.{Line}
use Rattle.c65_code.specs.declared.line.Line.TheVariants.{Label, Do, Call}
use Rattle.c65_code.specs.LineState.{write, State, sp_of, s_of, IsBytes}
use Rattle.c65_code.specs.Placement.{IsPlacement, word_of, stack_start, stack_end}
use Rattle.c65_code.specs.Forms.{Plain, Run, form_of}
use Rattle.c65_code.specs.Rows.{Row, Meets, row_of}
use Rattle.c65_code.specs.Moves.{ref_of, MeetsRow}
use Rattle.c65_code.specs.Steady.{IsCalm, IsWithin, HasRoom, RowHasRoom}
use Rattle.c65_code.specs.Weights.{row_cost}
use Rattle.c65_code.specs.LineLaws.{IsGivenByte}
use Rattle.c65_code.specs.Comes.{seen_at}
use Rattle.c65_genwide.specs.Lines.{call}
use Rattle.c65_agree_step.specs.Ways.{IsAtLine}
use Rattle.c65_agree_step.specs.Laws.{after_operation}
use Rattle.c65_agree_step.proofs.Ways.{weaken, routines_go}
use Rattle.c65_agree_state.specs.World.{World, program_in, setting_in, Active, lines_of, place_in, HasAt, HasTurns}
use Rattle.c65_agree_state.specs.Follows.{Agrees, Follows}
use Rattle.c65_agree_state.specs.Laws.{HasStacks}
use Rattle.c65_agree_state.proofs.Followed.{follows_weaken, arrivals_count}
use Rattle.c65_agree_state.proofs.Scratch.{constants_are_low}
use Rattle.c65_agree_state.proofs.Nodes.{has_front, has_back}
use Rattle.c65_agree_state.proofs.Leaves.{run}
use Rattle.c65_agree_rows.proofs.Quiet.{write_other}
use Rattle.c65_agree_frame.specs.Leads.{Leads, IsOn}

-- ---- one way behind another

pub none_leads : (g : World) (a : Active) (t : State) (Behind : State → Type 0) → Behind t → Leads g a [] 0 t Behind
none_leads g a t Behind b n v p turns m seen has turned k =
    let ends : p ≡ p + 0 = omega arith in
    let none : v ≡ 0 + v = omega arith in
    subst (λ z. Follows g n z m (place_in g a p) t seen) none
    (subst (λ q. Follows g n v m (place_in g a q) t seen) (sym ends) (k t seen b (subst (λ q. HasTurns g turns (place_in g a q) seen) ends turned)))

pub leads_then : (g : World) (a : Active) (xs ys : List Line) (w x : ℕ) (t : State) (R S : State → Type 0) → Leads g a xs w t R → ((u : State) → R u → Leads g a ys x u S) → Leads g a (xs ++ ys) (w + x) t S
leads_then g a xs ys w x t R S first second n v p turns m seen has turned k =
    let weight : w + (x + v) ≡ w + x + v = omega arith in
    let ends : p + length xs + length ys ≡ p + length (xs ++ ys) = omega (arith, length-append xs ys) in
    subst (λ z. Follows g n z m (place_in g a p) t seen) weight
    (first n (x + v) p turns m seen (has_front (lines_of g a) p xs ys has) turned (λ u later r h.
    second u r n v (p + length xs) turns m later (has_back (lines_of g a) p xs ys has) h (λ z after s h2.
    subst (λ q. Follows g n v m (place_in g a q) z after) (sym ends) (k z after s (subst (λ q. HasTurns g turns (place_in g a q) after) ends h2)))))

pub leads_as : (g : World) (a : Active) (lines : List Line) (w x : ℕ) (t : State) (R S : State → Type 0) → w ≤ x → ((u : State) → R u → S u) → Leads g a lines w t R → Leads g a lines x t S
leads_as g a lines w x t R S le f h n v p turns m seen has turned k =
    follows_weaken g n (w + v) (x + v) m (place_in g a p) t seen (omega (arith, le)) (h n v p turns m seen has turned (λ u later r. k u later (f u r)))

-- ---- what stays calm

module _ (g : World) (placed : IsPlacement g.code g.place) (t u : State) (on : IsOn g t) where
  pub stays_on : ((n : ℕ) → n < stack_start → u.mem n ≡ t.mem n) → stack_start + 64 ≤ sp_of u → sp_of u ≤ stack_end → 3 + 26 ≤ s_of u → u.ended ≡ None → IsBytes u → IsOn g u
  stays_on low soft high hard running bytes = record {
    stacks = record {
      calm = record { low = omega (arith, soft); high = high; hard = omega (arith, hard); constant = λ b v e. low b (constants_are_low g placed b v e) ∙ on.stacks.calm.constant b v e; bytes = bytes };
      soft = soft;
      hard = hard;
    };
    running = running;
  }

-- ---- plain lines

abbrev pub after_line : World → Line → State → State
after_line g (Do op mode operand) t = after_operation (setting_in g) op mode operand t
after_line g _ t = t

abbrev pub after_lines : World → List Line → State → State
after_lines g [] t = t
after_lines g (l ∷ ls) t = after_lines g ls (after_line g l t)

-- sp stays, and what lies below the software stack
pub record IsKept (t u : State) : Type 0 where
  pub sp : sp_of u ≡ sp_of t
  pub low : (n : ℕ) → n < stack_start → u.mem n ≡ t.mem n
  pub pushed : u.pushed ≡ t.pushed
  pub frames : u.frames ≡ t.frames
  pub ended : u.ended ≡ t.ended

pub kept_regs : (t : State) (r : Regs) → IsKept t (record t { regs = r })
kept_regs t r = record { sp = refl; low = λ n lt. refl; pushed = refl; frames = refl; ended = refl }

pub kept_zero : (t : State) (i v : ℕ) → 2 ≤ i → IsKept t (record t { zp = write t.zp i v })
kept_zero t i v le =
    let low : write t.zp i v 0 ≡ t.zp 0 = write_other t.zp i v 0 (λ e. omega (arith, e, le)) in
    let high : write t.zp i v 1 ≡ t.zp 1 = write_other t.zp i v 1 (λ e. omega (arith, e, le)) in
    record { sp = omega (arith, low, high); low = λ n lt. refl; pushed = refl; frames = refl; ended = refl }

pub kept_memory : (t : State) (b v : ℕ) → stack_start ≤ b → IsKept t (record t { mem = write t.mem b v })
kept_memory t b v le = record { sp = refl; low = λ n lt. write_other t.mem b v n (λ e. omega (arith, e, le, lt)); pushed = refl; frames = refl; ended = refl }

-- each of the lines is within its bounds
abbrev pub AreSafe : World → List Line → State → Type 0
AreSafe g [] t = Unit {0}
AreSafe g (Do op mode operand ∷ ls) t =
    (form_of (Do op mode operand) ≡ Plain op mode operand) × IsWithin (setting_in g) (Plain op mode operand) t × IsGivenByte (ref_of mode (word_of g.place operand) t)
    × IsKept t (after_operation (setting_in g) op mode operand t) × AreSafe g ls (after_operation (setting_in g) op mode operand t)
AreSafe g (Label l ∷ ls) t = ⊥
AreSafe g (Call callee ∷ ls) t = ⊥

module _ (g : World) (a : Active) (op : Op) (mode : Mode) (operand : Operand) (ls : List Line) (t : State) (placed : IsPlacement g.code g.place) (on : IsOn g t) (safe : AreSafe g (Do op mode operand ∷ ls) t) where
  abbrev next : State
  next = after_operation (setting_in g) op mode operand t

  next_on : IsBytes next → IsOn g next
  next_on b =
      let kept = safe.3 in
      let same : s_of next ≡ s_of t = rw (kept.pushed, kept.frames) refl in
      stays_on g placed t next on kept.low (omega (arith, kept.sp, on.stacks.soft)) (omega (arith, kept.sp, on.stacks.calm.high)) (omega (arith, same, on.stacks.hard)) (kept.ended ∙ on.running) b

  line_leads : (IsBytes next → Leads g a ls (length ls) next (λ u. (u ≡ after_lines g ls next) × IsBytes u)) → Leads g a (Do op mode operand ∷ ls) (length (Do op mode operand ∷ ls)) t (λ u. (u ≡ after_lines g ls next) × IsBytes u)
  line_leads rest n v p turns m seen has turned k =
      let weight : 1 + (length ls + v) ≡ length (Do op mode operand ∷ ls) + v = omega arith in
      let ends : suc p + length ls ≡ p + length (Do op mode operand ∷ ls) = omega arith in
      let at : IsAtLine (setting_in g) a.symbol p t (Plain op mode operand) = record { line = Do op mode operand; there = has.0; formed = safe.0; calm = on.stacks.calm; within = safe.1; running = on.running } in
      subst (λ z. Follows g n z m (place_in g a p) t seen) weight
      (run g n (length ls + v) m a.symbol p t seen op mode operand at safe.2 (λ b.
      rest b n v (suc p) turns m (seen_at (place_in g a (suc p)) seen) has.1 (arrivals_count g turns (place_in g a (suc p)) seen (omega (arith, turned))) (λ u later r h.
      subst (λ q. Follows g n v m (place_in g a q) u later) (sym ends) (k u later r (subst (λ q. HasTurns g turns (place_in g a q) later) ends h)))))

pub lines_lead : (g : World) (a : Active) (lines : List Line) (t : State) → IsPlacement g.code g.place → IsOn g t → AreSafe g lines t → Leads g a lines (length lines) t (λ u. (u ≡ after_lines g lines t) × IsBytes u)
lines_lead g a [] t placed on safe = none_leads g a t (λ u. (u ≡ t) × IsBytes u) (refl, on.stacks.calm.bytes)
lines_lead g a (Label l ∷ ls) t placed on safe = absurd safe
lines_lead g a (Call callee ∷ ls) t placed on safe = absurd safe
lines_lead g a (Do op mode operand ∷ ls) t placed on safe =
    line_leads g a op mode operand ls t placed on safe (λ b. lines_lead g a ls (after_operation (setting_in g) op mode operand t) placed (next_on g a op mode operand ls t placed on safe b) safe.4)

-- ---- routines

pub routine_leads : (g : World) (a : Active) (r : Routine) (row : Row) (t : State) → IsOn g t → row_of r t ≡ Some row → HasRoom g.place row t → Leads g a (call r ∷ []) row.cost t (λ u. Meets row t u × IsBytes u)
routine_leads g a r row t on is room n v p turns m seen has turned k d =
    let q = Agrees g (steps (program_in g) n m) in
    let ends : suc p ≡ p + 1 = omega arith in
    let at : IsAtLine (setting_in g) a.symbol p t (Run r) = record { line = call r; there = has.0; formed = refl; calm = on.stacks.calm; within = subst (λ o. RowHasRoom g.place o t) (sym is) room; running = on.running } in
    let cost : row_cost (row_of r t) ≡ row.cost = ap row_cost is in
    weaken (setting_in g) q (4000 * n + (row.cost + v)) (omega (arith, cost)) (routines_go q (setting_in g) (4000 * n + v) a.symbol p t seen r at (λ u meets bytes.
    subst (λ z. Follows g n v m (place_in g a z) u (seen_at (place_in g a (suc p)) seen)) (sym ends)
    (k u (seen_at (place_in g a (suc p)) seen) (subst (λ o. MeetsRow o t u) is meets, bytes) (subst (λ z. HasTurns g turns (place_in g a z) (seen_at (place_in g a (suc p)) seen)) ends (arrivals_count g turns (place_in g a (suc p)) seen (omega (arith, turned))))) d))
