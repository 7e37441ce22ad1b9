-- That the lines of the product and the divisions of 32 bits do what their rows say (C90 6.3.5).
use Rattle.std.specs.Prelude.{◌≡◌}
use Rattle.c65_code.specs.declared.routine.Routine.{Routine}
use Rattle.c65_code.specs.declared.routine.Routine.TheVariants as routines
use Rattle.c65_code.specs.declared.routine.TosOp.{TosOp}
use Rattle.c65_code.specs.declared.routine.TosOp.TheVariants as tos
use Rattle.c65_code.specs.declared.routine.UnaryRoutine.TheVariants.{Neg}
use Rattle.c65_code.specs.declared.routine.Width.TheVariants.{Eax}
use Rattle.c65_code.specs.RawMachine.{RawSetting, MeetsRow}
use Rattle.c65_rtl.specs.Routines.{lines_of}
use Rattle.c65_rtlwide.specs.Wide.{lines_of as wide_lines_of}

-- the operator's lines stand under its number, and those of a routine that it calls
abbrev pub Holds : RawSetting → TosOp → Type 0
Holds s op = s.lines (s.routine (routines.Tos op Eax)) ≡ wide_lines_of (routines.Tos op Eax)

abbrev pub HoldsInner : RawSetting → Routine → Type 0
HoldsInner s r = s.lines (s.routine r) ≡ lines_of r

-- `tosmuleax`, which calls `popeax`
abbrev pub LongsAreMultiplied : Type 0
LongsAreMultiplied = (s : RawSetting) → Holds s tos.Mul → HoldsInner s routines.PopEax → MeetsRow s (routines.Tos tos.Mul Eax)

-- wherever those of a division do, and those of `popeax`
abbrev pub IsDivided : TosOp → Type 0
IsDivided op = (s : RawSetting) → Holds s op → HoldsInner s routines.PopEax → MeetsRow s (routines.Tos op Eax)

-- a quotient's routine calls that of the remainder
abbrev pub IsDividedBy : TosOp → TosOp → Type 0
IsDividedBy op other = (s : RawSetting) → Holds s op → Holds s other → HoldsInner s routines.PopEax → MeetsRow s (routines.Tos op Eax)

-- `tosudiveax` and `tosumodeax`
abbrev pub LongsAreDivided : Type 0
LongsAreDivided = IsDividedBy tos.UDiv tos.UMod × IsDivided tos.UMod

-- `tosdiveax` and `tosmodeax`, which call `negeax` too
abbrev pub IsSignedDivided : TosOp → Type 0
IsSignedDivided op = (s : RawSetting) → Holds s op → HoldsInner s routines.PopEax → HoldsInner s (routines.Unary Neg Eax) → MeetsRow s (routines.Tos op Eax)

abbrev pub IsSignedDividedBy : TosOp → TosOp → Type 0
IsSignedDividedBy op other = (s : RawSetting) → Holds s op → Holds s other → HoldsInner s routines.PopEax → HoldsInner s (routines.Unary Neg Eax) → MeetsRow s (routines.Tos op Eax)

abbrev pub SignedLongsAreDivided : Type 0
SignedLongsAreDivided = IsSignedDividedBy tos.Div tos.Mod × IsSignedDivided tos.Mod
