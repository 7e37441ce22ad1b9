-- What the entry of a function leaves of which parameters stand in regbank: those that came on the software stack are moved there, and the
-- last one may stay in registers until then (docs/MACHINE.md, "Calls").
use Rattle.std.specs.Prelude.{◌≡◌, ℕ, zero, suc, ◌+◌, ◌*◌, ◌<◌, ◌≤◌, ◌⊎◌, false, List, [], ◌∷◌, length}
use Rattle.c65_code.specs.LineState.{State, sp_of, IsBytes}
use Rattle.c65_code.specs.Placement.{IsPlacement, stack_start, stack_end}
use Rattle.c65_genframe.specs.declared.home.Arrival.{Arrival}
use Rattle.c65_genframe.specs.declared.home.Arrival.TheVariants.{Kept}
use Rattle.c65_genframe.specs.declared.home.Moved.{Moved}
use Rattle.c65_genframe.specs.Frames.{Framed, saved_bytes}
use Rattle.c65_genentry.specs.Entry.{entry_code}
use Rattle.c65_agree_state.specs.World.{World, Active}
use Rattle.c65_agree_rows.specs.Rows.{AreAt}
use Rattle.c65_agree_frame.specs.Leads.{Leads, IsOn}
use Rattle.c65_agree_frame.specs.Entries.{arriving, entry_cost}
use Rattle.c65_agree_registers.specs.Checks.{StacksReach, checking_cost}

-- one or two of the bytes of regbank that a function takes
pub record IsBanked (taken bank bytes : ℕ) : Type 0 where
  pub some : 1 ≤ bytes
  pub few : bytes ≤ 2
  pub within : bank + bytes ≤ taken

-- a byte of regbank that is none of these, or none to which a parameter moves
abbrev pub IsBeside : ℕ → ℕ → ℕ → Type 0
IsBeside i bank bytes = (i < bank) ⊎ (bank + bytes ≤ i)

abbrev pub AreBeside : ℕ → List Moved → Type 0
AreBeside i [] = Unit {0}
AreBeside i (m ∷ ms) = IsBeside i m.bank m.bytes × AreBeside i ms

-- parameters move from between these offsets to bytes of regbank, no two of them to the same
abbrev pub AreMoves : ℕ → ℕ → ℕ → List Moved → Type 0
AreMoves taken low high [] = Unit {0}
AreMoves taken low high (m ∷ ms) = IsBanked taken m.bank m.bytes × (low ≤ m.from) × (m.from + m.bytes ≤ high) × ((i : ℕ) → i < m.bytes → AreBeside (m.bank + i) ms) × AreMoves taken low high ms

-- and the one that stays in registers comes to others
abbrev pub IsKeptBeside : ℕ → Arrival → List Moved → Type 0
IsKeptBeside taken (Kept bank bytes) ms = IsBanked taken bank bytes × ((i : ℕ) → i < bytes → AreBeside (bank + i) ms)
IsKeptBeside taken _ ms = Unit {0}

-- so it is with the parameters of the frame f
pub record HasMoves (f : Framed) : Type 0 where
  pub moves : AreMoves (saved_bytes f.bank) (f.soft + saved_bytes f.bank) (f.soft + saved_bytes f.bank + f.stacked) f.moved
  pub kept : IsKeptBeside (saved_bytes f.bank) f.last f.moved

-- ---- behind the entry

-- the bytes of each stand in regbank as they lie above sp
abbrev pub AreMoved : List Moved → State → Type 0
AreMoved [] u = Unit {0}
AreMoved (m ∷ ms) u = ((i : ℕ) → i < m.bytes → u.zp (20 + (m.bank + i)) ≡ u.mem (sp_of u + m.from + i)) × AreMoved ms u

-- the bytes of A and X
abbrev pub register_byte : ℕ → State → ℕ
register_byte zero t = t.regs.a
register_byte (suc i) t = t.regs.x

-- the parameter that stayed in registers stands there
abbrev pub IsKept : Arrival → State → State → Type 0
IsKept (Kept bank bytes) t u = (i : ℕ) → i < bytes → u.zp (20 + (bank + i)) ≡ register_byte i t
IsKept _ t u = Unit {0}

abbrev pub IsBesideLast : ℕ → Arrival → Type 0
IsBesideLast i (Kept bank bytes) = IsBeside i bank bytes
IsBesideLast i _ = Unit {0}

-- sp is lower by the parameter that arrives in registers and goes on the stack, the saved bytes of regbank and the automatic objects; the
-- first two stand there, the parameters stand in regbank, and the other bytes of regbank and all that lay above are as they were
pub record HasMoved (f : Framed) (t u : State) : Type 0 where
  pub sp : sp_of u + (f.soft + (saved_bytes f.bank + length (arriving f.last t))) ≡ sp_of t
  pub arrived : AreAt u.mem (sp_of u + (f.soft + saved_bytes f.bank)) (arriving f.last t)
  pub saved : (i : ℕ) → i < saved_bytes f.bank → u.mem (sp_of u + f.soft + i) ≡ t.zp (20 + i)
  pub moved : AreMoved f.moved u
  pub kept : IsKept f.last t u
  pub others : (i : ℕ) → i < 6 → IsBesideLast i f.last → AreBeside i f.moved → u.zp (20 + i) ≡ t.zp (20 + i)
  pub mem : (n : ℕ) → (n < stack_start) ⊎ (sp_of t ≤ n) → u.mem n ≡ t.mem n
  pub pushed : u.pushed ≡ t.pushed
  pub frames : u.frames ≡ t.frames
  pub input : u.input ≡ t.input
  pub output : u.output ≡ t.output
  pub ended : u.ended ≡ t.ended
  pub bytes : IsBytes u

-- a load and two stores for each that moves
abbrev pub moving_cost : Framed → ℕ
moving_cost f = entry_cost f + 266 * length f.moved

abbrev pub register_cost : Framed → ℕ
register_cost f = checking_cost f.check + moving_cost f

-- The lines of the entry take the frame, and bring the parameters to regbank, whether or not they check the stacks, where these reach.
abbrev pub EntriesMove : Type 0
EntriesMove = (g : World) (a : Active) (t : State) → IsPlacement g.code g.place → IsOn g t → a.frame.variadic ≡ false → StacksReach a.frame.check t → HasMoves a.frame
    → stack_start + 64 + (a.frame.soft + (saved_bytes a.frame.bank + length (arriving a.frame.last t))) ≤ sp_of t → sp_of t + a.frame.stacked ≤ stack_end + length (arriving a.frame.last t)
    → Leads g a (entry_code a.frame) (register_cost a.frame) t (HasMoved a.frame t)
