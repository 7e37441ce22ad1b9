-- Which of the runtime's routines a program uses.
use Rattle.std.specs.Prelude.{ℕ, ◌+◌, ◌&&◌, ◌||◌, Bool, true, false, if◌then◌else◌, List, [], ◌∷◌, ◌++◌, slice_index_or, slice_set, replicate}
use Rattle.c65_code.specs.declared.line.Callee.{Callee}
use Rattle.c65_code.specs.declared.line.Callee.TheVariants as callees
use Rattle.c65_code.specs.declared.line.Line.{Line}
use Rattle.c65_code.specs.declared.line.Line.TheVariants.{Call}
use Rattle.c65_code.specs.declared.routine.Routine.{Routine}
use Rattle.c65_code.specs.declared.routine.Routine.TheVariants as routines
use Rattle.c65_code.specs.declared.routine.TheConstants.Routine.{ALL}
use Rattle.c65_code.specs.Numbering.{number_of}
use Rattle.c65_rtl.specs.Routines.{is_narrow, lines_of}
use Rattle.c65_rtlwide.specs.Wide.{is_wide, lines_of as wide_lines_of}
use Rattle.c65_va.specs.Printf.{is_printf, printf_lines}

-- the hooks have no lines
abbrev pub has_lines : Routine → Bool
has_lines r = is_wide r || (is_printf r || is_narrow r)

abbrev pub routine_lines : Routine → List Line
routine_lines r = if is_wide r then wide_lines_of r else if is_printf r then printf_lines else lines_of r

-- by their numbers, which routines are used
abbrev pub Marks : Type 0
Marks = List Bool

abbrev pub no_marks : Marks
no_marks = replicate 123 false

abbrev pub marked : Marks → Routine → Marks
marked marks r = slice_set marks (number_of r) true

abbrev pub is_marked : Marks → Routine → Bool
is_marked marks r = slice_index_or marks (number_of r) false

abbrev pub with_callee : Marks → Callee → Marks
with_callee marks (callees.Routine r) = marked marks r
with_callee marks (callees.Pointer reads gives) = marked marks routines.CallPtr4
with_callee marks _ = marks

abbrev pub with_call : Marks → Line → Marks
with_call marks (Call callee) = with_callee marks callee
with_call marks _ = marks

-- the routines that lines call are used
abbrev pub with_calls : Marks → List Line → Marks
with_calls marks [] = marks
with_calls marks (line ∷ lines) = with_calls (with_call marks line) lines

pub record Chosen : Type 0 where
  pub marks : Marks
  pub parts : List Routine

-- a routine that is used is taken, and then those are used that it calls
abbrev pub with_routine : Chosen → Routine → Chosen
with_routine chosen r = if is_marked chosen.marks r && has_lines r then record { marks = with_calls chosen.marks (routine_lines r); parts = chosen.parts ++ r ∷ [] } else chosen

unfoldable pub with_routines : Chosen → List Routine → Chosen
with_routines chosen [] = chosen
with_routines chosen (r ∷ rs) = with_routines (with_routine chosen r) rs

-- from the routines that are used directly, all that are used
abbrev pub chosen_by : Chosen → Chosen
chosen_by chosen = with_routines chosen ALL
