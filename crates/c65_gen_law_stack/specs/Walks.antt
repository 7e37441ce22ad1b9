-- Ways through the lines of a function between its entry and its end, with all calls on them (docs/MACHINE.md, "Calls").
use Rattle.std.specs.Prelude.{◌≡◌, ℕ, suc, ◌+◌, ◌≤◌, Option, Some, Ok, List, ◌++◌, length, slice_get}
use Rattle.c65_csem.specs.declared.items.Parts.{Parts}
use Rattle.c65_csem.specs.Trees.{FuncTy}
use Rattle.c65_code.specs.declared.parts.RegSet.{RegSet}
use Rattle.c65_code.specs.declared.line.Line.{Line}
use Rattle.c65_code.specs.LineState.{Place, State, sp_of}
use Rattle.c65_code.specs.Placement.{Setting}
use Rattle.c65_code.specs.Forms.{form_of}
use Rattle.c65_code.specs.Moves.{Enters, Moves}
use Rattle.c65_code.specs.Steady.{IsSteady}
use Rattle.c65_genframe.specs.declared.modes.Modes.{Modes}
use Rattle.c65_genframe.specs.Frames.{Framed, frame_of}
use Rattle.c65_genentry.specs.Entry.{entry_code}
use Rattle.c65_genentry.specs.Ends.{end_code}
use Rattle.c65_gen_law_lines.specs.Stack.{Waiting}
use Rattle.c65_gen_law_stack.specs.Passing.{Passes}
use Rattle.c65_gen_law_stack.specs.Calls.{pushed_bytes, parameter_bytes, passed_bytes}
use Rattle.c65_gen_law_stack.specs.Heights.{AreLevel}
use Rattle.c65_gen_law_stack.specs.Going.{waiting_at, IsOwn}

-- a function: its number, its frame, the lines between its entry and its end, and what waits before the first of them
pub record Laid : Type 0 where
  pub number : ℕ
  pub frame : Framed
  pub middle : List Line
  pub first : Option Waiting

abbrev pub bytes_before : Laid → ℕ → ℕ
bytes_before c j = waiting_at c.first c.middle j

abbrev pub place_in : Laid → ℕ → Place
place_in c j = (c.number, length (entry_code c.frame) + j)

pub record IsLaid (s : Setting) (c : Laid) : Type 0 where
  pub parts : Parts
  pub modes : Modes
  pub func : FuncTy
  pub framed : frame_of parts modes func ≡ Ok c.frame
  pub lines : s.lines c.number ≡ entry_code c.frame ++ (c.middle ++ end_code c.frame)
  pub level : AreLevel c.first c.middle

-- From one of these lines, or the line behind them, to another: by moves that call no function, and by whole calls, through the entry
-- of the called function, a way from one of its lines to another before which as much waits, and its end. Each call takes away what the
-- function takes, and a variadic function leaves the number of bytes at sp alone.
pub data Walks (s : Setting) : Laid → ℕ → State → ℕ → State → Type 0 where
  stays : {c : Laid} {j : ℕ} {t : State} → Walks s c j t j t
  moves : {c : Laid} {j k m : ℕ} {t u v : State} (line : Line) → slice_get c.middle j ≡ Some line → IsOwn (form_of line) → IsSteady s line t
      → Moves s line (place_in c j) t (place_in c k) u → Walks s c k u m v → Walks s c j t m v
  calls : {c d : Laid} {j k m from to : ℕ} {reads gives : RegSet} {q : Place} {a t u v x y : State} → IsLaid s d → suc j ≤ length c.middle
      → bytes_before c j + pushed_bytes d.frame.last ≡ bytes_before c (suc j) + passed_bytes d.frame t
      → Enters s d.number reads gives (place_in c j) a q t → Passes s (entry_code d.frame) q t (place_in d from) u
      → Walks s d from u to v → bytes_before d from ≡ bytes_before d to → parameter_bytes d.frame v ≡ parameter_bytes d.frame u
      → Passes s (end_code d.frame) (place_in d to) v (place_in c k) x → Walks s c k x m y → Walks s c j a m y

-- On such a way sp and what waits have the same sum at each line, whatever was called.
abbrev pub WalksKeepHeights : Type 0
WalksKeepHeights = (s : Setting) (c : Laid) (j m : ℕ) (t u : State) → IsLaid s c → Walks s c j t m u
    → (sp_of u + bytes_before c m ≡ sp_of t + bytes_before c j) × (u.frames ≡ t.frames)
