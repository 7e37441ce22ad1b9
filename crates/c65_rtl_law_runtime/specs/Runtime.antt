-- The routines of the runtime do what their rows say, wherever their lines stand under their numbers.
use Rattle.std.specs.Prelude.{◌≡◌, ◌==◌, ◌||◌, Bool, false, IsTrue, if◌then◌else◌, List}
use Rattle.std.specs.List.{list_any}
use Rattle.c65_code.specs.declared.line.Callee.TheVariants as callees
use Rattle.c65_code.specs.declared.line.Line.{Line}
use Rattle.c65_code.specs.declared.line.Line.TheVariants.{Call}
use Rattle.c65_code.specs.declared.routine.Routine.{Routine}
use Rattle.c65_code.specs.Numbering.{number_of}
use Rattle.c65_code.specs.RawMachine.{RawSetting, MeetsRow, IsRuntime}
use Rattle.c65_rtl.specs.Routines.{lines_of, is_narrow}
use Rattle.c65_rtlwide.specs.Wide.{is_wide, lines_of as wide_lines_of}
use Rattle.c65_va.specs.Printf.{is_printf, printf_lines}

-- the hooks have no lines
abbrev pub has_lines : Routine → Bool
has_lines r = is_wide r || (is_printf r || is_narrow r)

abbrev pub lines_for : Routine → List Line
lines_for r = if is_wide r then wide_lines_of r else if is_printf r then printf_lines else lines_of r

-- the lines of a routine stand under its number
abbrev pub Stands : RawSetting → Routine → Type 0
Stands s r = s.lines (s.routine r) ≡ lines_for r

-- those of each routine that has some here
abbrev pub HoldsRuntime : RawSetting → Type 0
HoldsRuntime s = (r : Routine) → IsTrue (has_lines r) → Stands s r

abbrev pub RuntimeIsMet : Type 0
RuntimeIsMet = (s : RawSetting) → HoldsRuntime s → IsRuntime s

abbrev pub is_call : Routine → Line → Bool
is_call r (Call (callees.Routine q)) = number_of q == number_of r
is_call r _ = false

-- a line of a routine calls another one
abbrev pub has_call : Routine → Routine → Bool
has_call which r = list_any (is_call r) (lines_for which)

-- a routine calls another one itself, or one that it calls does
pub data Calls : Routine → Routine → Type 0 where
  itself : {which r : Routine} → IsTrue (has_call which r) → Calls which r
  through : {which r : Routine} (other : Routine) → IsTrue (has_call which other) → Calls other r → Calls which r

-- the lines of all that a routine calls stand under their numbers
abbrev pub CalledStand : RawSetting → Routine → Type 0
CalledStand s which = (r : Routine) → Calls which r → IsTrue (has_lines r) → Stands s r

-- wherever a routine's own lines stand, and those of what it calls
abbrev pub RoutinesAreMet : Type 0
RoutinesAreMet = (s : RawSetting) (which : Routine) → IsTrue (has_lines which) → Stands s which → CalledStand s which → MeetsRow s which
