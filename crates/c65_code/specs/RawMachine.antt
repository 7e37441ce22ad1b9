-- The machine whose calls all enter lines, those of routines too (docs/MEANING.md, "The machine without rows"): for the
-- proof that each routine does what its row says. It has one way on, and its weight counts instructions.
use Rattle.std.specs.Prelude.{◌≡◌, ℕ, suc, ◌+◌, ◌-◌, ◌*◌, ◌%◌, ◌<◌, ◌≤◌, ◌==◌, ◌⊎◌, Bool, IsTrue, if◌then◌else◌, All, List, [], ◌∷◌, ◌++◌, Option, Some, None, slice_get, take, length}
use Rattle.c65_code.specs.declared.routine.Routine.{Routine}
use Rattle.c65_code.specs.declared.routine.Routine.TheVariants as routines
use Rattle.c65_code.specs.declared.routine.Width.TheVariants.{Ax}
use Rattle.c65_base.specs.declared.library.Library.{Library}
use Rattle.c65_code.specs.declared.line.Line.{Line}
use Rattle.c65_code.specs.Parts.{no_parts}
use Rattle.c65_code.specs.Texts.{bytes_at, range_of, listed}
use Rattle.c65_code.specs.LineState.{Place, State, Frame, word_at, sp_of, s_of, ax_of, zero_word, IsBytes}
use Rattle.c65_code.specs.Placement.{Placement, word_of, program_start, stack_start, stack_end}
use Rattle.c65_code.specs.Forms.{Form, Mark, Plain, Branch, Jump, Far, Push, Pull, Depth, Return, Run, Enter, Through, Stray, form_of}
use Rattle.c65_code.specs.Rows.{Row, Meets, row_by, row_of, giving, popping, word_bytes}
use Rattle.c65_code.specs.Moves.{Ref, Given, ZeroAt, MemAt, ref_of, settle, next, Does}
use Rattle.c65_code.specs.Steady.{HasRoom}

-- the lines of functions and routines, each under a number of its own
pub record RawSetting : Type 0 where
  pub lines : ℕ → List Line
  pub routine : Routine → ℕ
  pub is_function : ℕ → Bool
  pub library : ℕ → Option Library
  pub place : Placement
  pub args : List (List ℕ)

-- The hooks of the simulator (docs/MACHINE.md, "Runs"): they leave Y, the flags and all memory below the sp alone.

-- each argument laid below the one before with a zero byte behind it, and its address in the list, which 0 ends
abbrev pub arg_writes : List (List ℕ) → ℕ → ℕ → List (ℕ × ℕ)
arg_writes [] at lowest = listed (word_bytes 0) at
arg_writes (arg ∷ args) at lowest =
    let start = lowest - (length arg + 1) in
    listed (arg ++ 0 ∷ []) start ++ (listed (word_bytes start) at ++ arg_writes args (at + 2) start)

abbrev pub args_size : List (List ℕ) → ℕ
args_size [] = 0
args_size (arg ∷ args) = length arg + 1 + args_size args

abbrev pub quiet : Routine → State → Row
quiet hook t = record (row_by hook t) { room = 0; cost = 1 }

-- `read`: from descriptor 0 it takes the lesser of the count and what is left
abbrev pub read_hook : State → Row → Row
read_hook t row =
    let bytes = take (ax_of t) t.input in
    if word_at t.mem (sp_of t + 2) == 0
    then record (giving Ax (length bytes) row) { writes = listed bytes (word_at t.mem (sp_of t)); far = range_of (length bytes) (word_at t.mem (sp_of t)); taken = length bytes }
    else giving Ax 65535 row

-- `write`: to descriptor 1 it writes all
abbrev pub write_hook : State → Row → Row
write_hook t row =
    if word_at t.mem (sp_of t + 2) == 1
    then record (giving Ax (ax_of t) row) { out = bytes_at (ax_of t) (word_at t.mem (sp_of t)) t.mem; far = range_of (ax_of t) (word_at t.mem (sp_of t)) }
    else giving Ax 65535 row

abbrev pub args_hook : List (List ℕ) → State → Row → Row
args_hook args t row =
    let list = sp_of t - 2 * (length args + 1) in
    record (giving Ax (length args) row) { sp = list - args_size args; settled = list - args_size args; writes = arg_writes args list list ++ listed (word_bytes list) (ax_of t) }

abbrev pub hook_row : List (List ℕ) → Routine → State → Option Row
hook_row args routines.HookOpen t = Some (giving Ax 65535 (record (quiet routines.HookOpen t) { sp = (sp_of t + t.regs.y) % 65536 }))
hook_row args routines.HookClose t = Some (giving Ax 65535 (quiet routines.HookClose t))
hook_row args routines.HookRead t = Some (read_hook t (popping 4 t (quiet routines.HookRead t)))
hook_row args routines.HookWrite t = Some (write_hook t (popping 4 t (quiet routines.HookWrite t)))
hook_row args routines.HookArgs t = Some (args_hook args t (quiet routines.HookArgs t))
hook_row args routines.HookExit t = Some (record (quiet routines.HookExit t) { ends = Some t.regs.a })
hook_row args _ t = None

-- the state once a call has put its return point on the stack
abbrev pub called : Place → State → State
called back t = record t { pushed = []; frames = record { back = back; pushed = t.pushed; gives = no_parts } ∷ t.frames }

-- a function's number, or that of the routine that stands for it
abbrev pub target_of : RawSetting → Option Library → ℕ → ℕ
target_of s None f = f
target_of s (Some library) f = s.routine (routines.Library library)

abbrev pub line_after : RawSetting → Place → Place
line_after s p = (p.0, settle (s.lines p.0) (suc p.1))

abbrev pub entry_of : RawSetting → ℕ → Place
entry_of s f = (f, settle (s.lines f) 0)

abbrev pub RawEnters : RawSetting → ℕ → Place → State → Place → State → Type 0
RawEnters s f p t q u = (q ≡ entry_of s f) × (u ≡ called (line_after s p) t)

abbrev pub RawReturns : List Frame → State → Place → State → Type 0
RawReturns [] t q u = ⊥
RawReturns (frame ∷ frames) t q u = (t.pushed ≡ []) × (q ≡ frame.back) × (u ≡ record t { pushed = frame.pushed; frames = frames })

abbrev pub RawRuns : RawSetting → Option Row → Routine → Place → State → Place → State → Type 0
RawRuns s None r p t q u = RawEnters s (s.routine r) p t q u
RawRuns s (Some row) r p t q u = (q ≡ line_after s p) × Meets row t u

-- one move
abbrev pub RawGoes : RawSetting → Form → Place → State → Place → State → Type 0
RawGoes s Mark p t q u = ⊥
RawGoes s Stray p t q u = ⊥
RawGoes s (Far i) p t q u = (f : ℕ) × IsTrue (s.is_function f) × (s.place.address f ≡ zero_word t i) × (q ≡ entry_of s (target_of s (s.library f) f)) × (u ≡ t)
RawGoes s Return p t q u = RawReturns t.frames t q u
RawGoes s (Enter f reads gives) p t q u = RawEnters s (target_of s (s.library f) f) p t q u
RawGoes s (Through reads gives) p t q u = RawEnters s (s.routine routines.CallPtr4) p t q u
RawGoes s (Run r) p t q u = RawRuns s (hook_row s.args r t) r p t q u
RawGoes s form p t q u = (q ≡ (p.0, next (s.lines p.0) form p.1 t.regs)) × Does s.place form t u

pub record RawMoves (s : RawSetting) (l : Line) (p : Place) (t : State) (q : Place) (u : State) : Type 0 where
  pub running : t.ended ≡ None
  pub goes : RawGoes s (form_of l) p t q u
  pub bytes : IsBytes u

-- a branch that does not reach is two instructions, and so are a call of a hook and the hook
abbrev pub raw_weight : Form → ℕ
raw_weight (Branch op l) = 2
raw_weight (Run r) = 2
raw_weight _ = 1

-- how far down a routine may go: the lowest byte of the software stack, and the least S
pub record Bounds : Type 0 where
  pub soft : ℕ
  pub hard : ℕ

abbrev pub IsReachable : Placement → Bounds → ℕ → Type 0
IsReachable place bounds b = IsTrue (place.is_data b) ⊎ ((bounds.soft ≤ b) × (b < stack_end))

abbrev pub IsRawOpen : Placement → Bounds → Ref → Type 0
IsRawOpen place bounds (Given v) = Unit {0}
IsRawOpen place bounds (ZeroAt i) = i < 256
IsRawOpen place bounds (MemAt b) = IsReachable place bounds b

abbrev pub IsHookWithin : Placement → Bounds → Option Row → State → Type 0
IsHookWithin place bounds None t = bounds.hard + 2 ≤ s_of t
IsHookWithin place bounds (Some row) t = (bounds.hard + 2 ≤ s_of t) × All (IsReachable place bounds) row.near × All (IsReachable place bounds) row.far

abbrev pub HasFrame : List Frame → Type 0
HasFrame [] = ⊥
HasFrame (frame ∷ frames) = Unit {0}

-- what a line needs
abbrev pub IsRawWithin : RawSetting → Bounds → Form → State → Type 0
IsRawWithin s bounds (Plain op mode operand) t = IsRawOpen s.place bounds (ref_of mode (word_of s.place operand) t)
IsRawWithin s bounds (Branch op l) t = Unit {0}
IsRawWithin s bounds (Jump l) t = Unit {0}
IsRawWithin s bounds Depth t = Unit {0}
IsRawWithin s bounds Push t = bounds.hard + 1 ≤ s_of t
IsRawWithin s bounds Pull t = (v : ℕ) × (rest : List ℕ) × (t.pushed ≡ v ∷ rest)
IsRawWithin s bounds Return t = (t.pushed ≡ []) × HasFrame t.frames
IsRawWithin s bounds (Run r) t = IsHookWithin s.place bounds (hook_row s.args r t) t
IsRawWithin s bounds (Enter f reads gives) t = bounds.hard + 2 ≤ s_of t
IsRawWithin s bounds (Through reads gives) t = bounds.hard + 2 ≤ s_of t
IsRawWithin s bounds (Far i) t = (i < 256) × (f : ℕ) × IsTrue (s.is_function f) × (s.place.address f ≡ zero_word t i)
IsRawWithin s bounds _ t = ⊥

-- From here the lines come to a place and state of Q, within the bounds, in at most so many instructions.
pub data RawComes (s : RawSetting) (bounds : Bounds) (Q : Place → State → Type 0) : ℕ → Place → State → Type 0 where
  here : {w : ℕ} {p : Place} {t : State} → Q p t → RawComes s bounds Q w p t
  on : {w v : ℕ} {p : Place} {t : State} (l : Line) → slice_get (s.lines p.0) p.1 ≡ Some l → t.ended ≡ None → IsRawWithin s bounds (form_of l) t
      → raw_weight (form_of l) + v ≤ w
      → ((q : Place) (u : State) → RawMoves s l p t q u → RawComes s bounds Q v q u)
      → RawComes s bounds Q w p t

-- what a routine has done: it is back behind its call with its row met, or it has ended the run
abbrev pub HasDone : Option ℕ → Row → Place → State → Place → State → Type 0
HasDone None row back t p u = (p ≡ back) × Meets row t u × IsBytes u
HasDone (Some status) row back t p u = (u.ended ≡ Some status) × (u.output ≡ t.output ++ row.out)

-- data lie in program space, as in every placement of a code
abbrev pub LieLow : Placement → Type 0
LieLow place = (b : ℕ) → IsTrue (place.is_data b) → (program_start ≤ b) × (b < stack_start)

-- what holds at a call
pub record MayRun (s : RawSetting) (row : Row) (t : State) : Type 0 where
  pub room : HasRoom s.place row t
  pub high : sp_of t ≤ stack_end
  pub bytes : IsBytes t
  pub running : t.ended ≡ None
  pub data_low : LieLow s.place

-- 64 bytes of the software stack and 26 of the hard stack, counted from before the call
abbrev pub reach_of : State → Bounds
reach_of t = record { soft = sp_of t - 64; hard = s_of t - 26 }

-- The routine, called in a state, does what the row says, within the reach and in fewer instructions than the row costs: the
-- call is one more.
pub record Runs (s : RawSetting) (r : Routine) (row : Row) (back : Place) (t : State) : Type 0 where
  pub weight : ℕ
  pub within : suc weight ≤ row.cost
  pub comes : RawComes s (reach_of t) (HasDone row.ends row back t) weight (entry_of s (s.routine r)) (called back t)

-- it does so at every call that its row admits
abbrev pub MeetsRow : RawSetting → Routine → Type 0
MeetsRow s r = (row : Row) (back : Place) (t : State) → row_of r t ≡ Some row → MayRun s row t → Runs s r row back t

-- each routine does, called from anywhere
pub record IsRuntime (s : RawSetting) : Type 0 where
  pub meets : (r : Routine) → MeetsRow s r
