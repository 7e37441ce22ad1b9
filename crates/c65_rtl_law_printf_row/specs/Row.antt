-- That the lines of `printf` do what its row says (C90 7.9.6.1).
use Rattle.c65_base.specs.declared.library.Library.TheVariants.{Printf}
use Rattle.c65_code.specs.declared.routine.Routine.TheVariants as routines
use Rattle.c65_code.specs.RawMachine.{RawSetting, MeetsRow}
use Rattle.c65_rtl_law_printf_fields.specs.Numbers.{AllStand}

-- wherever they stand under its number, and those of what they call under theirs
abbrev pub FormatsAreWritten : Type 0
FormatsAreWritten = (s : RawSetting) → AllStand s (s.routine (routines.Library Printf)) → MeetsRow s (routines.Library Printf)
