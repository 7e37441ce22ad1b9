-- What the end of a function leaves behind its return (docs/MACHINE.md, "Calls").
use Rattle.std.specs.Prelude.{◌≡◌, ℕ, ◌+◌, ◌<◌, ◌≤◌, ◌⊎◌, true, false, IsTrue, List, [], ◌∷◌}
use Rattle.c65_meaning.specs.State as meaning
use Rattle.c65_code.specs.declared.parts.Part.{Part}
use Rattle.c65_code.specs.declared.parts.Part.TheVariants.{A, X, Zp}
use Rattle.c65_code.specs.Parts.{has_part}
use Rattle.c65_code.specs.LineState.{State, Frame, Same, sp_of, s_of, IsBytes}
use Rattle.c65_code.specs.Placement.{IsPlacement, stack_start, stack_end}
use Rattle.c65_code.specs.Moves.{common_of}
use Rattle.c65_code.specs.Comes.{Seen}
use Rattle.c65_genframe.specs.Frames.{Framed, saved_bytes}
use Rattle.c65_genentry.specs.Ends.{end_code}
use Rattle.c65_agree_state.specs.World.{World, Active, setting_in, lines_of, place_in, HasAt, HasTurns}
use Rattle.c65_agree_state.specs.Joins.{call_bytes}
use Rattle.c65_agree_state.specs.Follows.{Follows}
use Rattle.c65_agree_frame.specs.Leads.{IsOn}
use Rattle.c65_agree_frame.specs.Laws.{move_cost}

-- A, X and sreg
abbrev pub IsPrimary : Part → Type 0
IsPrimary A = Unit {0}
IsPrimary X = Unit {0}
IsPrimary (Zp i) = (i ≡ 2) ⊎ (i ≡ 3)
IsPrimary _ = ⊥

-- sp is above all that the call had there, regbank has the bytes that were put away, what the call and the function both give stays, and
-- the call behind is the active one.
pub record IsLeft (g : World) (a : Active) (frame : Frame) (frames : List Frame) (t u : State) : Type 0 where
  pub sp : sp_of u ≡ sp_of t + call_bytes a
  pub brought : (i : ℕ) → i < saved_bytes a.frame.bank → u.zp (20 + i) ≡ t.mem (sp_of t + a.frame.soft + i)
  pub others : (i : ℕ) → saved_bytes a.frame.bank ≤ i → i < 6 → u.zp (20 + i) ≡ t.zp (20 + i)
  pub mem : (n : ℕ) → (n < stack_start) ⊎ (sp_of u ≤ n) → u.mem n ≡ t.mem n
  pub given : (p : Part) → IsPrimary p → IsTrue (has_part (common_of frame.gives ((setting_in g).gives a.symbol)) p) → Same p t u
  pub pushed : u.pushed ≡ frame.pushed
  pub frames_are : u.frames ≡ frames
  pub input : u.input ≡ t.input
  pub output : u.output ≡ t.output
  pub ended : u.ended ≡ t.ended
  pub bytes : IsBytes u

-- where a function may end: the number of bytes that the call passed is known, and the stacks have room
pub record MayEnd (g : World) (a : Active) (t : State) : Type 0 where
  pub on : IsOn g t
  pub none_pushed : t.pushed ≡ []
  -- for a byte on the hard stack
  pub hard : 30 ≤ s_of t
  pub plain : a.frame.variadic ≡ false → a.raised ≡ 0
  pub counted : a.frame.variadic ≡ true → (t.mem (sp_of t) ≡ a.raised + a.frame.stacked) × (1 ≤ a.frame.soft)
  pub within : sp_of t + call_bytes a ≤ stack_end

abbrev pub end_cost : Framed → ℕ
end_cost f = 300 + move_cost f.soft + move_cost f.stacked

-- The lines of the end go before what is followed behind the call.
abbrev pub EndsAreFollowed : Type 0
EndsAreFollowed = (g : World) (a : Active) (frame : Frame) (frames : List Frame) (t : State) (n v p turns : ℕ) (m : meaning.State) (seen : Seen)
    → IsPlacement g.code g.place → MayEnd g a t → t.frames ≡ frame ∷ frames → HasAt (lines_of g a) p (end_code a.frame) → HasTurns g turns (place_in g a p) seen
    → ((u : State) (later : Seen) → IsLeft g a frame frames t u → HasTurns g turns frame.back later → Follows g n v m frame.back u later)
    → Follows g n (end_cost a.frame + v) m (place_in g a p) t seen
