-- Lines that compare a register and go by what it tells, under what is followed.
use Rattle.std.proofs.Common.{◌≡◌, ℕ, suc, ◌+◌, ◌-◌, ◌*◌, ◌<◌, ◌≤◌, Bool, true, false, List, [], ◌∷◌, refl, sym, ap, ◌∙◌, subst, arith}
use Rattle.std.specs.Prelude.{◌%◌, ◌==◌, if◌then◌else◌}
use Rattle.std.proofs.lemmas.Bool.Decides.{nat_tests}
use Rattle.c65_mach.specs.declared.rows.Op.{Op}
use Rattle.c65_mach.specs.declared.rows.Op.TheVariants.{Beq, Bne, Ldy, Jmp}
use Rattle.c65_mach.specs.declared.rows.Mode.TheVariants.{Immediate, ZeroPage}
use Rattle.c65_mach.specs.State.{Regs}
use Rattle.c65_mach.specs.Step.{compared, with_y, is_taken, is_not}
use Rattle.c65_meaning.specs.State as meaning
use Rattle.c65_meaning.specs.State.{Scene}
use Rattle.c65_meaning.specs.Step.{steps}
use Rattle.c65_code.specs.declared.line.Line.{Line}
use Rattle.c65_code.specs.declared.line.Operand.TheVariants.{Byte, Zero}
use Rattle.c65_code.specs.LineState.{Place, State, IsBytes, sp_of}
use Rattle.c65_code.specs.Placement.{IsPlacement}
use Rattle.c65_code.specs.Forms.{Plain, Branch, form_of}
use Rattle.c65_code.specs.Moves.{labelled}
use Rattle.c65_code.specs.Steady.{IsCalm}
use Rattle.c65_code.specs.Comes.{Seen, seen_at}
use Rattle.c65_genwide.specs.Lines.{value}
use Rattle.c65_genentry.specs.Words.{zero_page, branch, jump}
use Rattle.c65_agree_store.specs.Stands.{Placing, Banks}
use Rattle.c65_agree_step.specs.Ways.{place_at, IsAtLine}
use Rattle.c65_agree_step.specs.Laws.{after_operation}
use Rattle.c65_agree_step.proofs.Ways.{weaken, branches_go}
use Rattle.c65_agree_state.specs.World.{World, program_in, setting_in, total_in, Active, lines_of, place_in, HasAt, HasCome}
use Rattle.c65_agree_state.specs.Follows.{Agrees, Follows}
use Rattle.c65_agree_state.specs.Exprs.{Ready, Kept}
use Rattle.c65_agree_state.proofs.Followed.{arrivals_count, heads_count, ready_is_calm}
use Rattle.c65_agree_state.proofs.Leaves.{scratch_is_kept, with_regs, run}
use Rattle.c65_agree_state.proofs.Tests as tests

-- a branch under what is followed
branch_goes : (g : World) (n v : ℕ) (m : meaning.State) (f p l : ℕ) (t : State) (seen : Seen) (op : Op) (taken : Bool) → IsAtLine (setting_in g) f p t (Branch op l) → is_taken op t.regs ≡ taken
    → Follows g n v m (place_at (setting_in g) f (if taken then labelled ((setting_in g).lines f) l else suc p)) t (seen_at (place_at (setting_in g) f (if taken then labelled ((setting_in g).lines f) l else suc p)) seen)
    → Follows g n (2 + v) m (place_at (setting_in g) f p) t seen
branch_goes g n v m f p l t seen op taken at by k d =
    let q = Agrees g (steps (program_in g) n m) in
    weaken (setting_in g) q (4000 * n + (2 + v)) (omega arith) (branches_go q (setting_in g) (4000 * n + v) f p l t seen op taken at by (k d))

-- the flag Z tells whether two bytes are the same
abbrev pub is_same : ℕ → ℕ → Bool
is_same m v = (m + 256 - v) % 256 == 0

pub when_same : (m v : ℕ) → m < 256 → v < 256 → is_same m v ≡ true → m ≡ v
when_same m v lm lv h = let z : (m + 256 - v) % 256 ≡ 0 = grind (arith, nat_tests, h) in omega (arith, lm, lv, z)

pub when_other : (m v : ℕ) → m < 256 → v < 256 → is_same m v ≡ false → m ≡ v → ⊥
when_other m v lm lv h e =
    let z : (m + 256 - v) % 256 ≡ 0 = omega (arith, lm, lv, e) in
    let t : is_same m v ≡ true = ap (λ k. k == 0) z in
    let no : true ≡ false = sym t ∙ h in
    cc

-- The state t is ready, with nothing that waits; on the way other registers alone have changed.
module _ (g : World) (a : Active) (needs : ℕ) (c : Scene) (w : Placing) (b : Banks) (t : State) (placed : IsPlacement g.code g.place) (ready : Ready g a 0 needs c w b t) (n : ℕ) (m : meaning.State) where
  abbrev pub code : List Line
  code = lines_of g a

  abbrev pub place : ℕ → Place
  place p = place_in g a p

  abbrev pub with : Regs → State
  with r = record t { regs = r }

  pub kept : (r : Regs) → IsBytes (with r) → Kept g a c w b t c w b (with r)
  kept r bytes = scratch_is_kept g a 0 needs c w b t (with r) placed ready (with_regs (sp_of t) t r bytes) refl

  pub calm : (r : Regs) → IsBytes (with r) → IsCalm (setting_in g) (with r)
  calm r bytes = (ready_is_calm g a 0 needs c w b (with r) (record { joins = (kept r bytes).joins; sp = ready.sp; room = ready.room; none_pushed = ready.none_pushed })).calm

  abbrev pub Goes : ℕ → ℕ → Regs → Seen → Type 0
  Goes v p r seen = Follows g n v m (place p) (with r) seen

  -- the turns that were taken are among the arrivals
  abbrev pub Counted : Seen → Type 0
  Counted seen = c.turns ≤ total_in g seen

  counts : (p : ℕ) (seen : Seen) → Counted seen → Counted (seen_at (place p) seen)
  counts p seen h = omega (arith, arrivals_count g c.turns (place p) seen h)

  -- a comparison of a register and a byte
  pub compares : (op : Op) (held byte v p : ℕ) (r : Regs) (seen : Seen) → form_of (value op byte) ≡ Plain op Immediate (Byte byte)
      → after_operation (setting_in g) op Immediate (Byte byte) (with r) ≡ with (compared held byte r) → byte < 256 → IsBytes (with r) → Counted seen → HasAt code p (value op byte ∷ [])
      → ((later : Seen) → IsBytes (with (compared held byte r)) → Counted later → Goes v (suc p) (compared held byte r) later) → Goes (1 + v) p r seen
  compares op held byte v p r seen formed does lt bytes counted has k =
      run g n v m a.symbol p (with r) seen op Immediate (Byte byte) (record { line = value op byte; there = has.0; formed = formed; calm = calm r bytes; within = tt; running = ready.joins.ended }) lt (λ after.
      subst (λ u. Follows g n v m (place (suc p)) u (seen_at (place (suc p)) seen)) (sym does)
      (k (seen_at (place (suc p)) seen) (subst IsBytes does after) (counts (suc p) seen counted)))

  -- Y with a byte of the zero page
  pub loads_y : (i v p : ℕ) (r : Regs) (seen : Seen) → i < 256 → IsBytes (with r) → Counted seen → HasAt code p (zero_page Ldy i ∷ [])
      → ((later : Seen) → IsBytes (with (with_y (t.zp i) r)) → Counted later → Goes v (suc p) (with_y (t.zp i) r) later) → Goes (1 + v) p r seen
  loads_y i v p r seen lt bytes counted has k =
      run g n v m a.symbol p (with r) seen Ldy ZeroPage (Zero i) (record { line = zero_page Ldy i; there = has.0; formed = refl; calm = calm r bytes; within = (lt, λ h. absurd h); running = ready.joins.ended }) tt (λ after.
      k (seen_at (place (suc p)) seen) after (counts (suc p) seen counted))

  -- a branch where two bytes are the same, or where they are not
  pub leaves_other : (v p l : ℕ) (r : Regs) (seen : Seen) → IsBytes (with r) → Counted seen → HasAt code p (branch Bne l ∷ [])
      → (r.z ≡ true → (later : Seen) → Counted later → Goes v (suc p) r later)
      → (r.z ≡ false → (later : Seen) → HasCome g c.turns (place (labelled code l)) later → Goes v (labelled code l) r later) → Goes (2 + v) p r seen
  leaves_other v p l r seen bytes counted has k f = go r.z refl
    where
      at : IsAtLine (setting_in g) a.symbol p (with r) (Branch Bne l)
      at = record { line = branch Bne l; there = has.0; formed = refl; calm = calm r bytes; within = tt; running = ready.joins.ended }

      go : (z : Bool) → r.z ≡ z → Goes (2 + v) p r seen
      go true e = branch_goes g n v m a.symbol p l (with r) seen Bne false at (ap is_not e) (k e (seen_at (place (suc p)) seen) (counts (suc p) seen counted))
      go false e = branch_goes g n v m a.symbol p l (with r) seen Bne true at (ap is_not e) (f e (seen_at (place (labelled code l)) seen) (heads_count g c.turns (place (labelled code l)) seen counted))

  pub leaves_same : (v p l : ℕ) (r : Regs) (seen : Seen) → IsBytes (with r) → Counted seen → HasAt code p (branch Beq l ∷ [])
      → (r.z ≡ false → (later : Seen) → Counted later → Goes v (suc p) r later)
      → (r.z ≡ true → (later : Seen) → HasCome g c.turns (place (labelled code l)) later → Goes v (labelled code l) r later) → Goes (2 + v) p r seen
  leaves_same v p l r seen bytes counted has k f = go r.z refl
    where
      at : IsAtLine (setting_in g) a.symbol p (with r) (Branch Beq l)
      at = record { line = branch Beq l; there = has.0; formed = refl; calm = calm r bytes; within = tt; running = ready.joins.ended }

      go : (z : Bool) → r.z ≡ z → Goes (2 + v) p r seen
      go false e = branch_goes g n v m a.symbol p l (with r) seen Beq false at e (k e (seen_at (place (suc p)) seen) (counts (suc p) seen counted))
      go true e = branch_goes g n v m a.symbol p l (with r) seen Beq true at e (f e (seen_at (place (labelled code l)) seen) (heads_count g c.turns (place (labelled code l)) seen counted))

  pub jumps : (v p l : ℕ) (r : Regs) (seen : Seen) → IsBytes (with r) → Counted seen → HasAt code p (jump Jmp l ∷ [])
      → ((later : Seen) → HasCome g c.turns (place (labelled code l)) later → Goes v (labelled code l) r later) → Goes (1 + v) p r seen
  jumps v p l r seen bytes counted has f =
      tests.jump g n v m a.symbol p l (with r) seen (record { line = jump Jmp l; there = has.0; formed = refl; calm = calm r bytes; within = tt; running = ready.joins.ended })
      (f (seen_at (place (labelled code l)) seen) (heads_count g c.turns (place (labelled code l)) seen counted))
