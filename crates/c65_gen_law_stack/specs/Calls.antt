-- What a function's entry and its end do to the software stack and to regbank (docs/MACHINE.md, "Calls").
use Rattle.std.specs.Prelude.{◌≡◌, ℕ, ◌+◌, ◌-◌, ◌≤◌, nat_lt, if◌then◌else◌, Ok, List, ◌∷◌, ◌++◌}
use Rattle.c65_csem.specs.declared.items.Parts.{Parts}
use Rattle.c65_csem.specs.Trees.{FuncTy}
use Rattle.c65_code.specs.Texts.{bytes_at}
use Rattle.c65_code.specs.LineState.{Place, Frame, State, sp_of}
use Rattle.c65_code.specs.Placement.{Setting}
use Rattle.c65_code.specs.Rows.{bank_of}
use Rattle.c65_genframe.specs.declared.modes.Modes.{Modes}
use Rattle.c65_genframe.specs.declared.home.Arrival.{Arrival}
use Rattle.c65_genframe.specs.declared.home.Arrival.TheVariants.{Pushed}
use Rattle.c65_genframe.specs.Frames.{Framed, saved_bytes, frame_of}
use Rattle.c65_genentry.specs.Words.{regbank}
use Rattle.c65_genentry.specs.Entry.{entry_code}
use Rattle.c65_genentry.specs.Ends.{end_code}
use Rattle.c65_gen_law_stack.specs.Passing.{Passes}

-- the bytes of the last parameter that the entry pushes
abbrev pub pushed_bytes : Arrival → ℕ
pushed_bytes (Pushed bytes) = if nat_lt bytes 2 then 1 else (if nat_lt bytes 3 then 2 else (if nat_lt bytes 4 then 3 else 4))
pushed_bytes _ = 0

-- how far the entry lowers sp
abbrev pub entry_bytes : Framed → ℕ
entry_bytes f = pushed_bytes f.last + (saved_bytes f.bank + f.soft)

-- Behind the entry: regbank as the caller had it. The bytes that the function takes stand above the automatic objects, the others
-- where they were.
abbrev pub caller_bank : Framed → State → List ℕ
caller_bank f t = let taken = saved_bytes f.bank in bytes_at taken (sp_of t + f.soft) t.mem ++ bytes_at (6 - taken) (regbank + taken) t.zp

-- and the bytes of all parameters on the software stack
abbrev pub parameter_bytes : Framed → State → ℕ
parameter_bytes f t = if f.variadic then t.mem (sp_of t) else f.stacked

-- and as far as is known before it: a variadic call passes the number in Y
abbrev pub passed_bytes : Framed → State → ℕ
passed_bytes f t = if f.variadic then t.regs.y else f.stacked

-- from the function's first line to the line behind its entry
pub record IsEntered (f : Framed) (t u : State) : Type 0 where
  pub sp : sp_of u + entry_bytes f ≡ sp_of t
  pub bank : caller_bank f u ≡ bank_of t
  pub parameters : parameter_bytes f u ≡ passed_bytes f t
  pub above : (b : ℕ) → sp_of t ≤ b → u.mem b ≡ t.mem b
  pub pushed : u.pushed ≡ t.pushed
  pub frames : u.frames ≡ t.frames

abbrev pub EntriesLowerSp : Type 0
EntriesLowerSp = (s : Setting) (parts : Parts) (modes : Modes) (g : FuncTy) (f : Framed) (p q : Place) (t u : State)
    → frame_of parts modes g ≡ Ok f → Passes s (entry_code f) p t q u → IsEntered f t u

-- from the first line of its end to the line behind the call: what the call and the function both give is kept
pub record IsLeft (s : Setting) (f : Framed) (frame : Frame) (p : Place) (t : State) (q : Place) (u : State) : Type 0 where
  pub to : q ≡ frame.back
  pub sp : sp_of u ≡ sp_of t + (f.soft + (saved_bytes f.bank + parameter_bytes f t))
  pub bank : bank_of u ≡ caller_bank f t
  pub above : (b : ℕ) → sp_of u ≤ b → u.mem b ≡ t.mem b
  pub frames : t.frames ≡ frame ∷ u.frames

abbrev pub EndsRaiseSp : Type 0
EndsRaiseSp = (s : Setting) (f : Framed) (frame : Frame) (frames : List Frame) (p q : Place) (t u : State)
    → t.frames ≡ frame ∷ frames → Passes s (end_code f) p t q u → IsLeft s f frame p t q u

-- Between the two: sp is where it was, and so are the bytes that the entry put away.
pub record Holds (f : Framed) (t u : State) : Type 0 where
  pub sp : sp_of u ≡ sp_of t
  pub bank : caller_bank f u ≡ caller_bank f t
  pub parameters : parameter_bytes f u ≡ parameter_bytes f t
  pub frames : u.frames ≡ t.frames

-- from a function's first line to the line behind its call
pub record IsCalled (f : Framed) (frame : Frame) (t : State) (q : Place) (u : State) : Type 0 where
  pub to : q ≡ frame.back
  -- sp is higher by the parameters that the call pushed, which are those on the stack but for the one that the entry pushes
  pub sp : sp_of u + pushed_bytes f.last ≡ sp_of t + passed_bytes f t
  pub bank : bank_of u ≡ bank_of t
  pub frames : t.frames ≡ frame ∷ u.frames

abbrev pub EndsUndoEntries : Type 0
EndsUndoEntries = (s : Setting) (parts : Parts) (modes : Modes) (g : FuncTy) (f : Framed) (frame : Frame) (frames : List Frame) (p q r o : Place) (t u v w : State)
    → frame_of parts modes g ≡ Ok f → t.frames ≡ frame ∷ frames
    → Passes s (entry_code f) p t q u → Holds f u v → Passes s (end_code f) r v o w → IsCalled f frame t o w
