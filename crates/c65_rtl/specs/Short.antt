-- How many instructions a routine without loops and calls takes: each line once at most.
use Rattle.std.specs.Prelude.{ℕ, ◌+◌, ◌&&◌, not, Bool, true, false, IsTrue, nat_lt, if◌then◌else◌, List, [], ◌∷◌}
use Rattle.c65_code.specs.declared.line.Line.{Line}
use Rattle.c65_code.specs.declared.line.Line.TheVariants.{Label}
use Rattle.c65_code.specs.declared.routine.Routine.{Routine}
use Rattle.c65_code.specs.declared.routine.Routine.TheVariants as routines
use Rattle.c65_code.specs.declared.routine.TosOp.{TosOp}
use Rattle.c65_code.specs.declared.routine.TosOp.TheVariants as tos
use Rattle.c65_code.specs.Forms.{Form, Branch, Jump, Push, Run, Enter, Through, Stray, form_of}
use Rattle.c65_code.specs.RawMachine.{raw_weight}
use Rattle.c65_code.specs.Segments.{is_among}

-- whether a line leads to a label that was not passed, and calls nothing
abbrev pub is_onward : List ℕ → Form → Bool
is_onward passed (Branch op l) = not (is_among passed l)
is_onward passed (Jump l) = not (is_among passed l)
is_onward passed (Run r) = false
is_onward passed (Enter f reads gives) = false
is_onward passed (Through reads gives) = false
is_onward passed Stray = false
is_onward passed _ = true

-- behind the labels that were passed
abbrev pub leads_on : List ℕ → List Line → Bool
leads_on passed [] = true
leads_on passed (Label l ∷ lines) = leads_on (l ∷ passed) lines
leads_on passed (line ∷ lines) = is_onward passed (form_of line) && leads_on passed lines

-- what each line weighs once
abbrev pub total_weight : List Line → ℕ
total_weight [] = 0
total_weight (line ∷ lines) = raw_weight (form_of line) + total_weight lines

abbrev pub push_of : Form → ℕ
push_of Push = 1
push_of _ = 0

-- how many bytes it pushes at most
abbrev pub pushed_by : List Line → ℕ
pushed_by [] = 0
pushed_by (line ∷ lines) = push_of (form_of line) + pushed_by lines

-- with the call's own instruction, within a cost; and with its two bytes, within 26 bytes of S
pub record IsShort (cost : ℕ) (lines : List Line) : Type 0 where
  pub onward : IsTrue (leads_on [] lines)
  pub weight : IsTrue (nat_lt (total_weight lines) cost)
  pub depth : IsTrue (nat_lt (pushed_by lines) 25)

abbrev pub is_straight_operator : TosOp → Bool
is_straight_operator tos.Mul = false
is_straight_operator tos.Div = false
is_straight_operator tos.Mod = false
is_straight_operator tos.UDiv = false
is_straight_operator tos.UMod = false
is_straight_operator tos.Shl = false
is_straight_operator tos.Shr = false
is_straight_operator tos.Asr = false
is_straight_operator _ = true

-- the routines without loops and calls
abbrev pub is_straight : Routine → Bool
is_straight (routines.Tos op width) = is_straight_operator op
is_straight routines.CopyTos = false
is_straight routines.Start = false
is_straight routines.StartArgs = false
is_straight routines.StkChk = false
is_straight (routines.Library function) = false
is_straight routines.HookOpen = false
is_straight routines.HookClose = false
is_straight routines.HookRead = false
is_straight routines.HookWrite = false
is_straight routines.HookArgs = false
is_straight routines.HookExit = false
is_straight _ = true

-- the first group
abbrev pub is_on_stack : Routine → Bool
is_on_stack routines.PushA = true
is_on_stack routines.PushAx = true
is_on_stack routines.PushA0 = true
is_on_stack routines.Push0 = true
is_on_stack routines.PushEax = true
is_on_stack routines.PopA = true
is_on_stack routines.PopAx = true
is_on_stack routines.PopEax = true
is_on_stack routines.PopPtrs = true
is_on_stack (routines.IncSp count) = true
is_on_stack (routines.DecSp count) = true
is_on_stack routines.AddYSp = true
is_on_stack routines.SubYSp = true
is_on_stack routines.LdAxYSp = true
is_on_stack routines.LdAx0Sp = true
is_on_stack routines.LdEaxYSp = true
is_on_stack routines.StAxYSp = true
is_on_stack routines.StAx0Sp = true
is_on_stack routines.StEaxYSp = true
is_on_stack _ = false

abbrev pub cost_of : Routine → ℕ
cost_of which = if is_on_stack which then 32 else 256
