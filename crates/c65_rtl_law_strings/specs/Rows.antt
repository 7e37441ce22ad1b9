-- That the lines of the library's functions on strings do what their rows say (C90 7.11).
use Rattle.std.specs.Prelude.{◌≡◌, ◌+◌, ◌*◌, length}
use Rattle.c65_base.specs.declared.library.Library.{Library}
use Rattle.c65_base.specs.declared.library.Library.TheVariants.{Strcmp, Strlen}
use Rattle.c65_code.specs.declared.routine.Routine.TheVariants as routines
use Rattle.c65_code.specs.RawMachine.{RawSetting, MeetsRow}
use Rattle.c65_rtl.specs.Routines.{lines_of}
use Rattle.c65_rtl_law_walks.specs.Inside.{MeetsIn}

-- the function's lines stand under its number
abbrev pub Holds : RawSetting → Library → Type 0
Holds s f = s.lines (s.routine (routines.Library f)) ≡ lines_of (routines.Library f)

-- wherever they do
abbrev pub IsMet : Library → Type 0
IsMet f = (s : RawSetting) → Holds s f → MeetsRow s (routines.Library f)

-- `strlen` (C90 7.11.6.3)
abbrev pub StringsAreMeasured : Type 0
StringsAreMeasured = IsMet Strlen

-- `strcmp` (C90 7.11.4.2)
abbrev pub StringsAreCompared : Type 0
StringsAreCompared = IsMet Strcmp

-- `strlen` within given bounds: it needs no byte of either stack, and 12 instructions for each byte that it reads
abbrev pub StringsAreMeasuredWithin : Type 0
StringsAreMeasuredWithin = (s : RawSetting) → Holds s Strlen → MeetsIn s 0 0 (λ row. 12 * length row.far + 32) (routines.Library Strlen)
