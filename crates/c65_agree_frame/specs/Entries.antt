-- What the entry of a function leaves that has no parameter in regbank, takes no further arguments and checks no stacks (docs/MACHINE.md,
-- "Calls").
use Rattle.std.specs.Prelude.{◌≡◌, ℕ, ◌+◌, ◌<◌, ◌≤◌, ◌⊎◌, false, if◌then◌else◌, nat_lt, List, [], ◌∷◌, None, length}
use Rattle.c65_code.specs.LineState.{State, sp_of, IsBytes}
use Rattle.c65_code.specs.Placement.{IsPlacement, stack_start}
use Rattle.c65_genframe.specs.declared.home.Arrival.{Arrival}
use Rattle.c65_genframe.specs.declared.home.Arrival.TheVariants.{Pushed, Kept}
use Rattle.c65_genframe.specs.Frames.{Framed, saved_bytes}
use Rattle.c65_genentry.specs.Entry.{entry_code}
use Rattle.c65_agree_state.specs.World.{World, Active}
use Rattle.c65_agree_rows.specs.Rows.{AreAt}
use Rattle.c65_agree_frame.specs.Leads.{Leads, IsOn, SameBank}
use Rattle.c65_agree_frame.specs.Laws.{move_cost}

-- so many bytes of the primary register, lowest first
abbrev pub primary_bytes : ℕ → State → List ℕ
primary_bytes bytes t =
    if nat_lt bytes 2 then t.regs.a ∷ [] else (if nat_lt bytes 3 then t.regs.a ∷ t.regs.x ∷ [] else (if nat_lt bytes 4 then t.regs.a ∷ t.regs.x ∷ t.zp 2 ∷ [] else t.regs.a ∷ t.regs.x ∷ t.zp 2 ∷ t.zp 3 ∷ []))

-- the bytes of the parameter that arrives in registers, which go onto the software stack
abbrev pub arriving : Arrival → State → List ℕ
arriving (Pushed bytes) t = primary_bytes bytes t
arriving _ t = []

-- sp is lower by that parameter, the saved bytes of regbank and the automatic objects; the first two stand there, and regbank and all
-- that lay above are as they were
pub record HasTaken (f : Framed) (t u : State) : Type 0 where
  pub sp : sp_of u + (f.soft + (saved_bytes f.bank + length (arriving f.last t))) ≡ sp_of t
  pub arrived : AreAt u.mem (sp_of u + (f.soft + saved_bytes f.bank)) (arriving f.last t)
  pub saved : (i : ℕ) → i < saved_bytes f.bank → u.mem (sp_of u + f.soft + i) ≡ t.zp (20 + i)
  pub bank : SameBank t u
  pub mem : (n : ℕ) → (n < stack_start) ⊎ (sp_of t ≤ n) → u.mem n ≡ t.mem n
  pub pushed : u.pushed ≡ t.pushed
  pub frames : u.frames ≡ t.frames
  pub input : u.input ≡ t.input
  pub output : u.output ≡ t.output
  pub ended : u.ended ≡ t.ended
  pub bytes : IsBytes u

-- no parameter stands in regbank, and the call passes no further arguments
pub record IsPlainFrame (f : Framed) : Type 0 where
  pub unchecked : f.check ≡ None
  pub plain : f.variadic ≡ false
  pub none_moved : f.moved ≡ []
  pub none_kept : (bank bytes : ℕ) → f.last ≡ Kept bank bytes → ⊥

abbrev pub entry_cost : Framed → ℕ
entry_cost f = 300 + move_cost f.soft

abbrev pub EntriesLead : Type 0
EntriesLead = (g : World) (a : Active) (t : State) → IsPlacement g.code g.place → IsOn g t → IsPlainFrame a.frame
    → stack_start + 64 + (a.frame.soft + (saved_bytes a.frame.bank + length (arriving a.frame.last t))) ≤ sp_of t
    → Leads g a (entry_code a.frame) (entry_cost a.frame) t (HasTaken a.frame t)
