-- That the lines of `stkchk` do what its row says: it comes back, or it ends the run with status 240 where too little of a stack is left.
use Rattle.std.specs.Prelude.{◌≡◌}
use Rattle.c65_code.specs.declared.routine.Routine.TheVariants as routines
use Rattle.c65_code.specs.RawMachine.{RawSetting, MeetsRow}
use Rattle.c65_rtl.specs.Routines.{lines_of}

-- wherever they stand under its number
abbrev pub StacksAreChecked : Type 0
StacksAreChecked = (s : RawSetting) → s.lines (s.routine routines.StkChk) ≡ lines_of routines.StkChk → MeetsRow s routines.StkChk
