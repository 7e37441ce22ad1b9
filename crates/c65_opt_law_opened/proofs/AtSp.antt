-- A word at sp and Y that is loaded or stored.
use Rattle.std.proofs.Common.{◌≡◌, ℕ, ◌+◌, ◌-◌, ◌*◌, ◌%◌, ◌<◌, ◌≤◌, ◌==◌, inl, inr, Bool, true, false, if◌then◌else◌, List, [], ◌∷◌, min, None, refl, sym, subst, ap, ◌∙◌, arith}
use Rattle.std.specs.Prelude.{nat_le}
use Rattle.std.proofs.lemmas.Bool.{leb-true, eqb-true}
use Rattle.std.proofs.lemmas.List.{append-nil}
use Rattle.c65_mach.specs.State.{Regs}
use Rattle.c65_mach.specs.Step.{Stores, Reads, after, with_a, with_x, with_y}
use Rattle.c65_mach.specs.declared.rows.Op.TheVariants as ops
use Rattle.c65_mach.specs.declared.rows.Mode.TheVariants.{IndirectY}
use Rattle.c65_code.specs.declared.line.Line.{Line}
use Rattle.c65_code.specs.declared.line.Operand.TheVariants.{Zero}
use Rattle.c65_code.specs.declared.parts.Part.{Part}
use Rattle.c65_code.specs.declared.parts.Part.TheVariants as parts
use Rattle.c65_code.specs.declared.routine.Routine.TheVariants as routines
use Rattle.c65_code.specs.declared.parts.RegSet.{RegSet}
use Rattle.c65_code.specs.declared.routine.Routine.{Routine}
use Rattle.c65_code.specs.declared.routine.Width.TheVariants.{Ax}
use Rattle.c65_code.specs.Effects.{small, ax, routine_sets}
use Rattle.c65_code.specs.LineState.{Bytes, write, word_at, zero_word, State, sp_of, Same, IsBytes}
use Rattle.c65_code.specs.Moves.{MeetsRow}
use Rattle.c65_code.specs.Parts.{has_part, union_of}
use Rattle.c65_code.specs.Placement.{Placement, Setting, stack_start, stack_end}
use Rattle.c65_code.specs.Rows.{Meets, low_byte, high_byte, row_by, keeping, giving, reading, needing, row_of}
use Rattle.c65_code.specs.Steady.{IsCalm, IsOpen, RowHasRoom}
use Rattle.c65_pass.specs.LibraryRules.{on_stack, with_byte}
use Rattle.c65_pass.specs.Registers.{alone}
use Rattle.c65_opt_law_near.specs.Laws.{IsLow}
use Rattle.c65_opt_law_opened.proofs.Leads.{Passable, AllPassable, IsPassedTo, registers, number}

-- ---- addresses

-- an address counted from sp lies in the software stack
pub record IsInStack (sp b : ℕ) : Type 0 where
  pub from : sp ≤ b
  pub to : b < stack_end

pub in_stack : (place : Placement) (sp b : ℕ) → IsLow place → stack_start ≤ sp → sp ≤ b → IsOpen place (min sp sp) b → IsInStack sp b
in_stack place sp b low soft le (inl h) = let below : b < stack_start = low.data_below b h in absurd (omega (arith, below, soft, le))
in_stack place sp b low soft le (inr h) = record { from = le; to = h.1 }

-- the address at sp and Y
abbrev pub at_y : State → ℕ
at_y t = after (zero_word t 0) t.regs.y

written_below : (m : Bytes) (at v b : ℕ) → stack_start ≤ at → b < stack_start → write m at v b ≡ m b
written_below m at v b le less = pick (b == at) refl
  where
    pick : (c : Bool) → (b == at) ≡ c → (if c then v else m b) ≡ m b
    pick true e = absurd (let same : b ≡ at = eqb-true b at e in omega (arith, same, le, less))
    pick false e = refl

module _ (s : Setting) where
  -- LDA and STA there
  pub loaded_at : (t : State) (b : ℕ) → IsInStack (sp_of t) b → at_y t ≡ b → Passable s Reads ops.Lda IndirectY (Zero 0) t
  loaded_at t b h e = record { form = refl; allowed = subst (IsOpen s.place (sp_of t)) (sym e) (inr (h.from, h.to)); sp = refl; depth = refl; constant = λ b v e h. h }

  pub stored_at : (t : State) (b : ℕ) → IsLow s.place → IsInStack (sp_of t) b → at_y t ≡ b → stack_start ≤ sp_of t → Passable s Stores ops.Sta IndirectY (Zero 0) t
  stored_at t b low h e soft = record {
    form = refl;
    allowed = subst (IsOpen s.place (sp_of t)) (sym e) (inr (h.from, h.to));
    sp = refl;
    depth = refl;
    constant = λ c v k is. written_below t.mem (at_y t) t.regs.a c (omega (arith, soft, h.from, e)) (low.constant_below c v k) ∙ is;
  }

-- ---- a word that is loaded

abbrev pub with_regs : State → Regs → State
with_regs t r = record t { regs = r }

-- the bytes of a word in memory
word_low : (l h : ℕ) → l < 256 → l ≡ low_byte (l + 256 * h)
word_low l h less = omega arith

word_high : (l h : ℕ) → l < 256 → h < 256 → h ≡ high_byte (l + 256 * h)
word_high l h less few = omega arith

-- A and X as a routine gives them that loads a word, and with other registers but the same stacks and memory
pub word_meets : (r : Routine) (ready : Bool) (at : ℕ) (t : State) (regs : Regs) → routine_sets r ≡ union_of small ax → IsBytes t → t.ended ≡ None → regs.a ≡ t.mem at → regs.x ≡ t.mem (at + 1)
    → Meets (needing ready (giving Ax (word_at t.mem at) (keeping t (reading 2 at (row_by r t))))) t (with_regs t regs)
word_meets r ready at t regs sets bytes running low high = record {
  sp = refl;
  a = low ∙ word_low (t.mem at) (t.mem (at + 1)) (bytes.mem at);
  x = high ∙ word_high (t.mem at) (t.mem (at + 1)) (bytes.mem at) (bytes.mem (at + 1));
  sreg = refl;
  pointers = tt;
  bank = tt;
  kept = λ p h. kept p (subst (λ (set : RegSet). has_part set p ≡ false) sets h);
  high = λ i h. refl;
  mem = λ b h. refl;
  pushed = refl;
  frames = refl;
  input = refl;
  output = sym (append-nil t.output);
  ended = running;
}
  where
    kept : (p : Part) → has_part (union_of small ax) p ≡ false → Same p t (with_regs t regs)
    kept (parts.Zp i) h = refl
    kept _ h = absurd (let e : true ≡ false = h in cc)

-- the word whose high byte lies at sp and Y
abbrev loading : List Line
loading = on_stack ops.Lda ∷ alone ops.Tax ∷ alone ops.Dey ∷ on_stack ops.Lda ∷ []

module _ (s : Setting) (t : State) where
  -- the registers behind each line
  abbrev high_read : Regs
  high_read = with_a (t.mem (at_y t)) t.regs

  abbrev high_moved : Regs
  high_moved = with_x (t.mem (at_y t)) high_read

  abbrev stepped_down : Regs
  stepped_down = with_y ((t.regs.y + 255) % 256) high_moved

  abbrev pub both_read : Regs
  both_read = with_a (t.mem (after (zero_word t 0) ((t.regs.y + 255) % 256))) stepped_down

  pub loading_passable : (at : ℕ) → IsInStack (sp_of t) at → IsInStack (sp_of t) (at + 1) → at_y t ≡ at + 1 → after (zero_word t 0) ((t.regs.y + 255) % 256) ≡ at → AllPassable s loading t
  loading_passable at one two high_at low_at =
      (loaded_at s t (at + 1) two high_at, (registers s ops.Tax (with_regs t high_read), (registers s ops.Dey (with_regs t high_moved), (loaded_at s (with_regs t stepped_down) at one low_at, tt))))

-- ---- both routines that load one

module _ (s : Setting) (low : IsLow s.place) (t : State) (calm : IsCalm s t) (running : t.ended ≡ None) where
  pub loads_at_y : RowHasRoom s.place (row_of routines.LdAxYSp t) t → IsPassedTo s loading t (MeetsRow (row_of routines.LdAxYSp t) t)
  loads_at_y room =
      let some : 1 ≤ t.regs.y = leb-true 1 t.regs.y room.ready in
      let at : ℕ = sp_of t + t.regs.y - 1 in
      let one : IsInStack (sp_of t) at = in_stack s.place (sp_of t) at low calm.low (omega (arith, some)) (room.near 0 at (omega arith)) in
      let two : IsInStack (sp_of t) (at + 1) = in_stack s.place (sp_of t) (at + 1) low calm.low (omega (arith, some)) (room.near 1 at (omega arith)) in
      let high_at : at_y t ≡ at + 1 = omega (arith, two.to, some) in
      let low_at : after (zero_word t 0) ((t.regs.y + 255) % 256) ≡ at = omega (arith, one.to, some, calm.bytes.y) in
      record {
        few = omega arith;
        passable = loading_passable s t at one two high_at low_at;
        holds = word_meets routines.LdAxYSp (nat_le 1 t.regs.y) at t (both_read s t) refl calm.bytes running (ap t.mem low_at) (ap t.mem high_at);
      }

  pub loads_at_sp : RowHasRoom s.place (row_of routines.LdAx0Sp t) t → IsPassedTo s (with_byte ops.Ldy 1 ∷ loading) t (MeetsRow (row_of routines.LdAx0Sp t) t)
  loads_at_sp room =
      let at : ℕ = sp_of t in
      let one : IsInStack (sp_of t) at = in_stack s.place (sp_of t) at low calm.low (omega arith) (room.near 0 at (omega arith)) in
      let two : IsInStack (sp_of t) (at + 1) = in_stack s.place (sp_of t) (at + 1) low calm.low (omega arith) (room.near 1 at (omega arith)) in
      let mid : State = with_regs t (with_y 1 t.regs) in
      let high_at : after (zero_word t 0) 1 ≡ at + 1 = omega (arith, two.to) in
      let low_at : after (zero_word t 0) 0 ≡ at = omega (arith, one.to) in
      record {
        few = omega arith;
        passable = (number s ops.Ldy 1 t, loading_passable s mid at one two high_at low_at);
        holds = word_meets routines.LdAx0Sp true at t (both_read s mid) refl calm.bytes running (ap t.mem low_at) (ap t.mem high_at);
      }
