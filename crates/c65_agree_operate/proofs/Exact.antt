-- Lines that change registers alone, each with its exact state behind it.
use Rattle.std.proofs.Common.{◌≡◌, ℕ, suc, ◌+◌, ◌*◌, List, [], ◌∷◌, ◌++◌, length, Bool, true, false, refl, sym, ap, ◌∙◌, subst, arith, length-append, ◌≤◌}
use Rattle.c65_mach.specs.declared.rows.Op.{Op}
use Rattle.c65_mach.specs.declared.rows.Op.TheVariants.{Pha, Pla, Ldx}
use Rattle.c65_mach.specs.declared.rows.Mode.TheVariants.{Implied}
use Rattle.c65_mach.specs.State.{Regs}
use Rattle.c65_mach.specs.Step.{with_a, apply, is_taken, Registers, kind_of}
use Rattle.c65_meaning.specs.State.{Scene}
use Rattle.c65_meaning.specs.Step.{steps}
use Rattle.c65_code.specs.declared.line.Operand.TheVariants.{Nothing}
use Rattle.c65_code.specs.declared.line.Line.{Line}
use Rattle.c65_code.specs.declared.line.Line.TheVariants.{Label}
use Rattle.c65_code.specs.LineState.{IsBytes, State, s_of}
use Rattle.c65_code.specs.Placement.{IsPlacement}
use Rattle.c65_code.specs.Forms.{Branch, Push, Pull, op_form, form_of}
use Rattle.c65_code.specs.Moves.{labelled, effect, ref_of}
use Rattle.c65_code.specs.Steady.{IsAllowed}
use Rattle.c65_code.specs.Comes.{seen_at}
use Rattle.c65_genwide.specs.Lines.{value}
use Rattle.c65_genload.specs.Words.{implied, branch}
use Rattle.c65_gendirect.specs.declared.bytes.OperandByte.{OperandByte}
use Rattle.c65_gendirect.specs.declared.bytes.OperandByte.TheVariants.{Number, Low, High, Near, Data, Zero}
use Rattle.c65_gendirect.specs.Bytes.{op_of}
use Rattle.c65_agree_store.specs.Stands.{Placing, Banks}
use Rattle.c65_agree_step.specs.Ways.{IsAtLine}
use Rattle.c65_agree_step.proofs.Ways.{weaken, branches_go, pushes_go, pulls_go, labels_are_passed}
use Rattle.c65_agree_state.specs.World.{World, program_in, setting_in, Active, lines_of, place_in, IsPlaced, HasTurns}
use Rattle.c65_agree_state.specs.Follows.{Agrees, Follows}
use Rattle.c65_agree_state.specs.Exprs.{Ready, Kept}
use Rattle.c65_agree_state.proofs.Followed.{arrivals_count}
use Rattle.c65_agree_state.proofs.Nodes.{has_back}
use Rattle.c65_agree_frame.specs.Leads.{Leads, IsOn}
use Rattle.c65_agree_frame.proofs.Leads.{leads_as, kept_regs, lines_lead, IsKept, after_lines}
use Rattle.c65_agree_load.proofs.Kept.{kept_later}
use Rattle.c65_agree_direct.specs.Operands.{byte_in, MayRead, Reading, op_in, with_operand}
use Rattle.c65_agree_direct.proofs.Used.{operand_bytes_are_used}
use Rattle.c65_agree_operate.specs.Manners.{IsHeld}

-- the state with these registers
abbrev pub at_regs : State → Regs → State
at_regs t s = record t { regs = s }

abbrev pub To : State → Regs → State → Type 0
To t s u = (u ≡ at_regs t s) × IsBytes u

-- what is lost of Y where an operand lies above sp
abbrev pub y_with : OperandByte → ℕ → ℕ
y_with (Near at) y = at
y_with x y = y

-- the registers behind an instruction on an operand's byte
abbrev pub on_byte : World → State → Reading → OperandByte → Regs → Regs
on_byte g t r x s = record (apply false (op_in r) (byte_in g t x) s) { y = y_with x s.y }

module _ (g : World) (a : Active) (t : State) (placed : IsPlacement g.code g.place) (on : IsOn g t) where
  pub on_regs : (s : Regs) → IsBytes (at_regs t s) → IsOn g (at_regs t s)
  on_regs s b =
      let calm = on.stacks.calm in
      record { stacks = record { calm = record { low = calm.low; high = calm.high; hard = calm.hard; constant = calm.constant; bytes = b }; soft = on.stacks.soft; hard = on.stacks.hard }; running = on.running }

  -- on registers alone
  pub implied_leads : (op : Op) → kind_of op ≡ Registers → (s : Regs) → IsBytes (at_regs t s) → Leads g a (implied op ∷ []) 1 (at_regs t s) (To t (apply false op 0 s))
  implied_leads op is s b =
      let v : State = at_regs t s in
      leads_as g a (implied op ∷ []) 1 1 v (λ u. (u ≡ after_lines g (implied op ∷ []) v) × IsBytes u) (To t (apply false op 0 s)) (omega arith)
      (λ u h. (h.0 ∙ ap (λ kind. effect kind op Implied 0 v) is, h.1))
      (lines_lead g a (implied op ∷ []) v placed (on_regs s b) (
        ap (λ kind. op_form kind op Implied Nothing) is,
        subst (λ kind. IsAllowed g.place kind (ref_of Implied 0 v) v) (sym is) tt,
        omega arith,
        subst (λ kind. IsKept v (effect kind op Implied 0 v)) (sym is) (kept_regs v (apply false op 0 s)),
        tt,
      ))

  pub zero_leads : (s : Regs) → IsBytes (at_regs t s) → Leads g a (value Ldx 0 ∷ []) 1 (at_regs t s) (To t (apply false Ldx 0 s))
  zero_leads s b = lines_lead g a (value Ldx 0 ∷ []) (at_regs t s) placed (on_regs s b) (refl, tt, omega arith, kept_regs (at_regs t s) (apply false Ldx 0 s), tt)

  may_read : (x : OperandByte) (s : Regs) → MayRead g t x → MayRead g (at_regs t s) x
  may_read (Number n) s h = h
  may_read (Low sym at) s h = h
  may_read (High sym at) s h = h
  may_read (Near at) s h = h
  may_read (Data sym at) s h = h
  may_read (Zero at) s h = h

  with_byte : (r : Reading) (x : OperandByte) (s : Regs) → with_operand g r x (at_regs t s) ≡ at_regs t (on_byte g t r x s)
  with_byte r (Number n) s = refl
  with_byte r (Low sym at) s = refl
  with_byte r (High sym at) s = refl
  with_byte r (Near at) s = refl
  with_byte r (Data sym at) s = refl
  with_byte r (Zero at) s = refl

  pub operand_leads : (r : Reading) (x : OperandByte) (s : Regs) → MayRead g t x → IsBytes (at_regs t s) → Leads g a (op_of (op_in r) x) 2 (at_regs t s) (To t (on_byte g t r x s))
  operand_leads r x s may b =
      leads_as g a (op_of (op_in r) x) 2 2 (at_regs t s) (λ u. (u ≡ with_operand g r x (at_regs t s)) × IsBytes u) (To t (on_byte g t r x s)) (omega arith) (λ u h. (h.0 ∙ with_byte r x s, h.1))
      (operand_bytes_are_used g a r x (at_regs t s) placed (on_regs s b) (may_read x s may))

-- lines from a state that is known
pub leads_from : (g : World) (a : Active) (ls : List Line) (w : ℕ) (t u : State) (s : Regs) (Behind : State → Type 0) → To t s u → (IsBytes (at_regs t s) → Leads g a ls w (at_regs t s) Behind) → Leads g a ls w u Behind
leads_from g a ls w t u s Behind h f = subst (λ z. Leads g a ls w z Behind) (sym h.0) (f (subst IsBytes h.0 h.1))

-- ---- the hard stack

-- A waits on the hard stack
abbrev pub holding : ℕ → State → State
holding v t = record t { pushed = v ∷ t.pushed }

pub push_a_leads : (g : World) (a : Active) (t : State) (s : Regs) → IsOn g t → IsBytes (at_regs t s) → Leads g a (implied Pha ∷ []) 1 (at_regs t s) (To (holding s.a t) s)
push_a_leads g a t s on b n v p turns m seen has turned goes d =
    let q = Agrees g (steps (program_in g) n m) in
    let ends : suc p ≡ p + 1 = omega arith in
    let calm = on.stacks.calm in
    let at : IsAtLine (setting_in g) a.symbol p (at_regs t s) Push = record { line = implied Pha; there = has.0; formed = refl; calm = record { low = calm.low; high = calm.high; hard = calm.hard; constant = calm.constant; bytes = b }; within = tt; running = on.running } in
    weaken (setting_in g) q (4000 * n + (1 + v)) (omega arith) (pushes_go q (setting_in g) (4000 * n + v) a.symbol p (at_regs t s) seen at (λ b2.
    subst (λ z. Follows g n v m (place_in g a z) (at_regs (holding s.a t) s) (seen_at (place_in g a (suc p)) seen)) (sym ends)
    (goes (at_regs (holding s.a t) s) (seen_at (place_in g a (suc p)) seen) (refl, b2) (subst (λ z. HasTurns g turns (place_in g a z) (seen_at (place_in g a (suc p)) seen)) ends (arrivals_count g turns (place_in g a (suc p)) seen (omega (arith, turned))))) d))

pub pull_a_leads : (g : World) (a : Active) (t : State) (n0 : ℕ) (s : Regs) → IsOn g (holding n0 t) → IsBytes (at_regs (holding n0 t) s) → Leads g a (implied Pla ∷ []) 1 (at_regs (holding n0 t) s) (To t (with_a n0 s))
pull_a_leads g a t n0 s on b n v p turns m seen has turned goes d =
    let q = Agrees g (steps (program_in g) n m) in
    let ends : suc p ≡ p + 1 = omega arith in
    let calm = on.stacks.calm in
    let at : IsAtLine (setting_in g) a.symbol p (at_regs (holding n0 t) s) Pull = record { line = implied Pla; there = has.0; formed = refl; calm = record { low = calm.low; high = calm.high; hard = calm.hard; constant = calm.constant; bytes = b }; within = (n0, t.pushed, refl); running = on.running } in
    weaken (setting_in g) q (4000 * n + (1 + v)) (omega arith) (pulls_go q (setting_in g) (4000 * n + v) a.symbol p n0 t.pushed (at_regs (holding n0 t) s) seen at refl (λ b2.
    subst (λ z. Follows g n v m (place_in g a z) (at_regs t (with_a n0 s)) (seen_at (place_in g a (suc p)) seen)) (sym ends)
    (goes (at_regs t (with_a n0 s)) (seen_at (place_in g a (suc p)) seen) (refl, b2) (subst (λ z. HasTurns g turns (place_in g a z) (seen_at (place_in g a (suc p)) seen)) ends (arrivals_count g turns (place_in g a (suc p)) seen (omega (arith, turned))))) d))

-- where one byte more may be pushed
pub on_holding : (g : World) (t : State) (v : ℕ) (s : Regs) → IsOn g t → 3 + 27 ≤ s_of t → IsBytes (at_regs (holding v t) s) → IsOn g (holding v t)
on_holding g t v s on more b =
    let calm = on.stacks.calm in
    let own : IsBytes (holding v t) = record { a = calm.bytes.a; x = calm.bytes.x; y = calm.bytes.y; zp = b.zp; mem = b.mem; pushed = b.pushed; frames = b.frames } in
    record { stacks = record { calm = record { low = calm.low; high = calm.high; hard = omega (arith, more); constant = calm.constant; bytes = own }; soft = on.stacks.soft; hard = omega (arith, more) }; running = on.running }

-- ---- a branch over lines to the label behind them

module _ (g : World) (a : Active) (own : IsPlaced (lines_of g a)) (op : Op) (l : ℕ) (ls : List Line) (w : ℕ) (t : State) (Behind : State → Type 0) (on : IsOn g t) (formed : form_of (branch op l) ≡ Branch op l) where
  abbrev all : List Line
  all = branch op l ∷ (ls ++ Label l ∷ [])

  pub skip_leads : (taken : Bool) → is_taken op t.regs ≡ taken → (taken ≡ true → Behind t) → (taken ≡ false → Leads g a (ls ++ Label l ∷ []) w t Behind) → Leads g a all (2 + w) t Behind
  skip_leads true is there on_to n v p turns m seen has turned goes d =
      let q = Agrees g (steps (program_in g) n m) in
      let at : IsAtLine (setting_in g) a.symbol p t (Branch op l) = record { line = branch op l; there = has.0; formed = formed; calm = on.stacks.calm; within = tt; running = on.running } in
      let label = has_back (lines_of g a) (suc p) ls (Label l ∷ []) has.1 in
      let ends : suc (suc p + length ls) ≡ p + length all = omega (arith, length-append ls (Label l ∷ [])) in
      let to : labelled (lines_of g a) l ≡ suc p + length ls = own (suc p + length ls) l label.0 in
      let place : place_in g a (labelled (lines_of g a) l) ≡ place_in g a (p + length all) = ap (place_in g a) to ∙ labels_are_passed (setting_in g) a.symbol (suc p + length ls) l label.0 ∙ ap (place_in g a) ends in
      weaken (setting_in g) q (4000 * n + (2 + w + v)) (omega arith) (branches_go q (setting_in g) (4000 * n + v) a.symbol p l t seen op true at is (
      subst (λ z. Follows g n v m z t (seen_at z seen)) (sym place)
      (goes t (seen_at (place_in g a (p + length all)) seen) (there refl) (arrivals_count g turns (place_in g a (p + length all)) seen (omega (arith, turned)))) d))
  skip_leads false is there on_to n v p turns m seen has turned goes d =
      let q = Agrees g (steps (program_in g) n m) in
      let at : IsAtLine (setting_in g) a.symbol p t (Branch op l) = record { line = branch op l; there = has.0; formed = formed; calm = on.stacks.calm; within = tt; running = on.running } in
      let ends : suc p + length (ls ++ Label l ∷ []) ≡ p + length all = omega arith in
      weaken (setting_in g) q (4000 * n + (2 + w + v)) (omega arith) (branches_go q (setting_in g) (4000 * n + (w + v)) a.symbol p l t seen op false at is (
      on_to refl n v (suc p) turns m (seen_at (place_in g a (suc p)) seen) has.1 (arrivals_count g turns (place_in g a (suc p)) seen (omega (arith, turned))) (λ u later b h.
      subst (λ z. Follows g n v m (place_in g a z) u later) (sym ends) (goes u later b (subst (λ z. HasTurns g turns (place_in g a z) later) ends h))) d))

-- ---- what is kept

-- nothing but registers is other
pub registers_kept : (g : World) (a : Active) (pushed needs : ℕ) (c : Scene) (w : Placing) (k : Banks) (t u : State) → IsPlacement g.code g.place → Ready g a pushed needs c w k t → u ≡ at_regs t u.regs → IsBytes u → Kept g a c w k t c w k u
registers_kept g a pushed needs c w k t u placed r only bytes = subst (λ z. Kept g a c w k t c w k z) (sym only) (kept_later g a pushed needs c w k t placed r u.regs t.zp (λ i h. refl) (subst IsBytes only bytes))

pub registers_held : (t u : State) → u ≡ at_regs t u.regs → IsHeld t u
registers_held t u only = record { low = ap (λ (z : State). z.zp 10) only; high = ap (λ (z : State). z.zp 11) only }

-- a routine may be called where one more byte has been pushed
pub one_more : (g : World) (a : Active) (pushed needs : ℕ) (c : Scene) (w : Placing) (k : Banks) (t : State) → Ready g a pushed needs c w k t → 3 + 27 ≤ s_of t
one_more g a pushed needs c w k t r = let h : length t.pushed ≡ 0 = ap length r.none_pushed in omega (arith, h, r.joins.hard, r.joins.few_calls)
