-- That the lines of the library's functions over the hooks do what their rows say (C90 7.10.4.3).
use Rattle.std.specs.Prelude.{◌≡◌}
use Rattle.c65_base.specs.declared.library.Library.{Library}
use Rattle.c65_base.specs.declared.library.Library.TheVariants.{Exit}
use Rattle.c65_code.specs.declared.routine.Routine.TheVariants as routines
use Rattle.c65_code.specs.RawMachine.{RawSetting, MeetsRow}
use Rattle.c65_rtl.specs.Routines.{lines_of}

-- the function's lines stand under its number
abbrev pub Holds : RawSetting → Library → Type 0
Holds s f = s.lines (s.routine (routines.Library f)) ≡ lines_of (routines.Library f)

-- wherever they do
abbrev pub IsMet : Library → Type 0
IsMet f = (s : RawSetting) → Holds s f → MeetsRow s (routines.Library f)

-- `exit`
abbrev pub ProgramsExit : Type 0
ProgramsExit = IsMet Exit
