-- Bytes that are stored behind an address in the zero page.
use Rattle.std.proofs.Common.{◌≡◌, ℕ, suc, ◌+◌, ◌%◌, ◌<◌, ◌≤◌, ◌⊎◌, inl, inr, List, [], ◌∷◌, ◌++◌, length, false, refl, sym, ap, ◌∙◌, subst, arith}
use Rattle.c65_mach.specs.declared.rows.Op.TheVariants.{Ldy, Pha, Pla, Sta, Txa}
use Rattle.c65_mach.specs.declared.rows.Mode.TheVariants.{IndirectY}
use Rattle.c65_mach.specs.State.{Regs}
use Rattle.c65_mach.specs.Step.{apply, after}
use Rattle.c65_meaning.specs.Store.{Cell, Block}
use Rattle.c65_meaning.specs.State.{Scene}
use Rattle.c65_code.specs.declared.line.Operand.TheVariants as operands
use Rattle.c65_code.specs.LineState.{State, Bytes, write, sp_of, s_of, zero_word, IsBytes}
use Rattle.c65_code.specs.Placement.{IsPlacement, stack_start}
use Rattle.c65_code.specs.Steady.{IsOpen}
use Rattle.c65_genwide.specs.Lines.{value}
use Rattle.c65_genload.specs.Words.{implied, by_y}
use Rattle.c65_agree_store.specs.Stands.{Spot, At, Placing, Banks, CellIs}
use Rattle.c65_agree_state.specs.World.{World, Active, place_in, HasTurns}
use Rattle.c65_agree_state.specs.Follows.{Follows}
use Rattle.c65_agree_state.specs.Exprs.{Ready, Kept}
use Rattle.c65_agree_state.proofs.Followed.{ready_is_calm}
use Rattle.c65_agree_put.specs.Puts.{OnlyStored, AreLaid, MayPut, with_put}
use Rattle.c65_agree_put.proofs.Puts.{puts_are_kept, banks_follow}
use Rattle.c65_agree_assign.proofs.States.{calm_by, opened}
use Rattle.c65_agree_assign.proofs.Steps.{operation}
use Rattle.c65_agree_frame.specs.Leads.{Leads, IsOn}
use Rattle.c65_agree_frame.proofs.Leads.{kept_regs, lines_lead}
use Rattle.c65_agree_operate.proofs.Exact.{at_regs, To, on_regs}

-- Y is a number
pub y_leads : (g : World) (a : Active) (t : State) (n : ℕ) (s : Regs) → IsPlacement g.code g.place → IsOn g t → n < 256 → IsBytes (at_regs t s) → Leads g a (value Ldy n ∷ []) 1 (at_regs t s) (To t (apply false Ldy n s))
y_leads g a t n s placed on few b = lines_lead g a (value Ldy n ∷ []) (at_regs t s) placed (on_regs g a t placed on s b) (refl, tt, few, kept_regs (at_regs t s) (apply false Ldy n s), tt)

-- A goes there
pub store_leads : (g : World) (a : Active) (z : ℕ) (t : State) (to : ℕ) → IsOn g t → after (zero_word t z) t.regs.y ≡ to → IsOpen g.place (sp_of t) to → Leads g a (by_y Sta z ∷ []) 1 t (λ u. (u ≡ record t { mem = write t.mem to t.regs.a }) × IsBytes u)
store_leads g a z t to on is opened_to n v p turns m seen has turned goes =
    let ends : suc p ≡ p + 1 = omega arith in
    operation g a n turns m v p Sta IndirectY (operands.Zero z) t seen (record { there = has.0; formed = refl; calm = on.stacks.calm; within = subst (IsOpen g.place (sp_of t)) (sym is) opened_to; running = on.running; given = tt; counted = turned }) (λ b later h.
    let from : ℕ = after (zero_word t z) t.regs.y in
    subst (λ q. Follows g n v m (place_in g a q) (record t { mem = write t.mem from t.regs.a }) later) (sym ends)
    (goes (record t { mem = write t.mem from t.regs.a }) later (ap (λ l. record t { mem = write t.mem l t.regs.a }) is, b) (subst (λ q. HasTurns g turns (place_in g a q) later) ends h)))

-- ---- a live block of which bytes are stored

module _ (g : World) (a : Active) (pushed needs : ℕ) (c : Scene) (w : Placing) (k : Banks) (t : State) (b : ℕ) (x : Block) (m o n : ℕ) (new : ℕ → Cell) (placed : IsPlacement g.code g.place) (r : Ready g a pushed needs c w k t) (may : MayPut g a c w b x (At m) o n) where
  -- nothing but these bytes, registers and scratch bytes is other
  pub record IsPartly (u : State) : Type 0 where
    pub mem : (p : ℕ) → ((i : ℕ) → i < n → m + o + i ≡ p → ⊥) → u.mem p ≡ t.mem p
    pub zp : (i : ℕ) → (i < 2) ⊎ (20 ≤ i) → u.zp i ≡ t.zp i
    pub stack : u.pushed ≡ t.pushed
    pub frames : u.frames ≡ t.frames
    pub input : u.input ≡ t.input
    pub output : u.output ≡ t.output
    pub ended : u.ended ≡ t.ended
    pub bytes : IsBytes u

  only : (u : State) → IsPartly u → OnlyStored a (sp_of t) (At m) o n t u
  only u p = record {
    mem = λ l side beside. p.mem l (λ i lt e. beside i lt (let on : m + (o + i) ≡ l = omega (arith, e) in ap At on));
    bank = λ i lt beside. sym (p.zp (20 + i) (inr (omega arith)));
    pushed = p.stack;
    frames = p.frames;
    input = p.input;
    output = p.output;
    ended = p.ended;
    bytes = p.bytes;
  }

  same_sp : (u : State) → IsPartly u → sp_of u ≡ sp_of t
  same_sp u p = let low = p.zp 0 (inl (omega arith)) in let high = p.zp 1 (inl (omega arith)) in omega (arith, low, high)

  pub partly_on : (u : State) → IsPartly u → IsOn g u
  partly_on u p =
      let h = ready_is_calm g a pushed needs c w k t r in
      let sp = same_sp u p in
      let hard : s_of u ≡ s_of t = rw (p.stack, p.frames) refl in
      record { stacks = record { calm = calm_by g a pushed needs c w k t u b x (At m) o n placed r may (only u p) sp; soft = omega (arith, sp, h.soft); hard = omega (arith, hard, h.hard) }; running = p.ended ∙ r.joins.ended }

  -- a byte of it may be reached
  pub open_there : (u : State) → IsPartly u → (i : ℕ) → i < n → IsOpen g.place (sp_of u) (m + o + i)
  open_there u p i lt = subst (λ s. IsOpen g.place s (m + o + i)) (sym (same_sp u p)) (opened g a pushed needs c w k t b x m o n new placed r may i lt)

  pub partly_stored : (u : State) → IsPartly u → ((i : ℕ) → i < n → CellIs w (new i) (u.mem (m + o + i))) → Kept g a c w k t (with_put c b x o n new) w k u
  partly_stored u p laid =
      puts_are_kept g a pushed needs c w k k t u b x (At m) o n new placed r may (only u p) (λ i lt. let on : m + o + i ≡ m + (o + i) = omega arith in subst (λ l. CellIs w (new i) (u.mem l)) on (laid i lt))
      ((banks_follow a k t u o n).1 m r.joins.bank (only u p)) (same_sp u p)
