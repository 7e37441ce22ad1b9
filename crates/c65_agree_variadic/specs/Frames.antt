-- What the entry of a function leaves that takes further arguments: some parameters may stand in regbank (docs/MACHINE.md, "Calls").
use Rattle.std.specs.Prelude.{◌≡◌, ℕ, ◌+◌, ◌-◌, ◌*◌, ◌<◌, ◌≤◌, ◌⊎◌, true, List, [], ◌∷◌, length}
use Rattle.c65_code.specs.LineState.{State, sp_of, IsBytes}
use Rattle.c65_code.specs.Placement.{IsPlacement, stack_start, stack_end}
use Rattle.c65_genframe.specs.declared.home.Arrival.TheVariants.{Passed}
use Rattle.c65_genframe.specs.declared.home.Moved.{Moved}
use Rattle.c65_genframe.specs.Frames.{Framed, saved_bytes}
use Rattle.c65_genentry.specs.Entry.{entry_code}
use Rattle.c65_agree_state.specs.World.{World, Active}
use Rattle.c65_agree_frame.specs.Leads.{Leads, IsOn}
use Rattle.c65_agree_frame.specs.Entries.{entry_cost}
use Rattle.c65_agree_registers.specs.Checks.{StacksReach, checking_cost}
use Rattle.c65_agree_registers.specs.Entries.{AreBeside, HasMoves}

-- The function takes further arguments. All arguments are on the software stack, and the first byte of the frame holds the number of their
-- bytes.
pub record IsFurtherFrame (f : Framed) : Type 0 where
  pub further : f.variadic ≡ true
  pub passed : f.last ≡ Passed
  pub counts : 1 ≤ f.soft

-- the bytes of each parameter that moves stand in regbank as they lie above sp, higher by so many
abbrev pub AreMovedFrom : ℕ → List Moved → State → Type 0
AreMovedFrom higher [] u = Unit {0}
AreMovedFrom higher (m ∷ ms) u = ((i : ℕ) → i < m.bytes → u.zp (20 + (m.bank + i)) ≡ u.mem (sp_of u + (m.from + higher) + i)) × AreMovedFrom higher ms u

-- sp is lower by the saved bytes of regbank, which stand there, and the automatic objects; at sp is the number that the call gave in Y; the
-- parameters that move are in regbank, its other bytes and all that lay above are as they were
pub record HasCountedMoves (f : Framed) (t u : State) : Type 0 where
  pub sp : sp_of u + (f.soft + saved_bytes f.bank) ≡ sp_of t
  pub count : u.mem (sp_of u) ≡ t.regs.y
  pub saved : (i : ℕ) → i < saved_bytes f.bank → u.mem (sp_of u + f.soft + i) ≡ t.zp (20 + i)
  pub moved : AreMovedFrom (t.regs.y - f.stacked) f.moved u
  pub others : (i : ℕ) → i < 6 → AreBeside i f.moved → u.zp (20 + i) ≡ t.zp (20 + i)
  pub mem : (n : ℕ) → (n < stack_start) ⊎ (sp_of t ≤ n) → u.mem n ≡ t.mem n
  pub pushed : u.pushed ≡ t.pushed
  pub frames : u.frames ≡ t.frames
  pub input : u.input ≡ t.input
  pub output : u.output ≡ t.output
  pub ended : u.ended ≡ t.ended
  pub bytes : IsBytes u

-- at most nine lines for each that moves
abbrev pub counting_cost : Framed → ℕ
counting_cost f = entry_cost f + 9 * length f.moved

abbrev pub further_cost : Framed → ℕ
further_cost f = checking_cost f.check + counting_cost f

-- The lines of the entry take the frame, and bring the parameters to regbank, where one byte can tell each byte that the call passed, whether
-- or not they check the stacks, where these reach.
abbrev pub EntriesCountMoves : Type 0
EntriesCountMoves = (g : World) (a : Active) (t : State) → IsPlacement g.code g.place → IsOn g t → IsFurtherFrame a.frame → StacksReach a.frame.check t → HasMoves a.frame
    → stack_start + 64 + (a.frame.soft + saved_bytes a.frame.bank) ≤ sp_of t → a.frame.stacked ≤ t.regs.y → t.regs.y + saved_bytes a.frame.bank ≤ 256 → sp_of t + t.regs.y ≤ stack_end
    → Leads g a (entry_code a.frame) (further_cost a.frame) t (HasCountedMoves a.frame t)
