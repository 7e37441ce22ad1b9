-- That the lines of the library's functions on characters do what their rows say (C90 7.9.7).
use Rattle.std.specs.Prelude.{◌≡◌}
use Rattle.c65_base.specs.declared.library.Library.TheVariants.{Putchar, Getchar, Puts, Strlen}
use Rattle.c65_code.specs.declared.routine.Count.TheVariants.{One, Four}
use Rattle.c65_code.specs.declared.routine.Routine.{Routine}
use Rattle.c65_code.specs.declared.routine.Routine.TheVariants as routines
use Rattle.c65_code.specs.RawMachine.{RawSetting, MeetsRow}
use Rattle.c65_rtl.specs.Routines.{lines_of}

-- the routine's lines stand under its number
abbrev pub Holds : RawSetting → Routine → Type 0
Holds s r = s.lines (s.routine r) ≡ lines_of r

-- `putchar` (C90 7.9.7.9), wherever its lines do, and those of the routines that it calls
abbrev pub CharactersAreWritten : Type 0
CharactersAreWritten = (s : RawSetting) → Holds s (routines.Library Putchar) → Holds s routines.PushAx → Holds s routines.PopAx → MeetsRow s (routines.Library Putchar)

-- `getchar` (C90 7.9.7.6)
abbrev pub CharactersAreRead : Type 0
CharactersAreRead = (s : RawSetting) → Holds s (routines.Library Getchar) → Holds s routines.PushA → Holds s routines.Push0 → Holds s routines.PushAx → Holds s routines.PopA → Holds s (routines.IncSp One) → MeetsRow s (routines.Library Getchar)

-- `puts` (C90 7.9.7.10)
abbrev pub LinesAreWritten : Type 0
LinesAreWritten = (s : RawSetting) → Holds s (routines.Library Puts) → Holds s routines.PushAx → Holds s (routines.Library Strlen) → Holds s routines.LdAxYSp → Holds s (routines.IncSp Four)
    → Holds s (routines.Library Putchar) → Holds s routines.PopAx → MeetsRow s (routines.Library Puts)
