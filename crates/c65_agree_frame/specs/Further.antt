-- What the entry of a function leaves that takes further arguments, has no parameter in regbank and checks no stacks (docs/MACHINE.md,
-- "Calls").
use Rattle.std.specs.Prelude.{◌≡◌, ℕ, ◌+◌, ◌<◌, ◌≤◌, ◌⊎◌, true, [], None}
use Rattle.c65_code.specs.LineState.{State, sp_of, IsBytes}
use Rattle.c65_code.specs.Placement.{IsPlacement, stack_start}
use Rattle.c65_genframe.specs.declared.home.Arrival.TheVariants.{Passed}
use Rattle.c65_genframe.specs.Frames.{Framed, saved_bytes}
use Rattle.c65_genentry.specs.Entry.{entry_code}
use Rattle.c65_agree_state.specs.World.{World, Active}
use Rattle.c65_agree_frame.specs.Leads.{Leads, IsOn, SameBank}
use Rattle.c65_agree_frame.specs.Entries.{entry_cost}

-- all arguments are on the software stack, and the first byte of the frame holds the number of their bytes
pub record IsCountingFrame (f : Framed) : Type 0 where
  pub unchecked : f.check ≡ None
  pub further : f.variadic ≡ true
  pub none_moved : f.moved ≡ []
  pub passed : f.last ≡ Passed
  pub counts : 1 ≤ f.soft

-- sp is lower by the saved bytes of regbank, which stand there, and the automatic objects; at sp is the number that the call gave in Y;
-- regbank and all that lay above are as they were
pub record HasCounted (f : Framed) (t u : State) : Type 0 where
  pub sp : sp_of u + (f.soft + saved_bytes f.bank) ≡ sp_of t
  pub count : u.mem (sp_of u) ≡ t.regs.y
  pub saved : (i : ℕ) → i < saved_bytes f.bank → u.mem (sp_of u + f.soft + i) ≡ t.zp (20 + i)
  pub bank : SameBank t u
  pub mem : (n : ℕ) → (n < stack_start) ⊎ (sp_of t ≤ n) → u.mem n ≡ t.mem n
  pub pushed : u.pushed ≡ t.pushed
  pub frames : u.frames ≡ t.frames
  pub input : u.input ≡ t.input
  pub output : u.output ≡ t.output
  pub ended : u.ended ≡ t.ended
  pub bytes : IsBytes u

abbrev pub EntriesCount : Type 0
EntriesCount = (g : World) (a : Active) (t : State) → IsPlacement g.code g.place → IsOn g t → IsCountingFrame a.frame
    → stack_start + 64 + (a.frame.soft + saved_bytes a.frame.bank) ≤ sp_of t
    → Leads g a (entry_code a.frame) (entry_cost a.frame) t (HasCounted a.frame t)
