-- That the lines of a routine do what its row says (docs/MACHINE.md, "Routines").
use Rattle.std.specs.Prelude.{◌≡◌, ◌||◌, Bool, true, false, IsTrue}
use Rattle.c65_code.specs.declared.routine.Routine.{Routine}
use Rattle.c65_code.specs.declared.routine.Routine.TheVariants as routines
use Rattle.c65_code.specs.declared.routine.TosOp.TheVariants as tos
use Rattle.c65_code.specs.declared.code.Code.{Code}
use Rattle.c65_code.specs.Placement.{Placement, IsPlacement}
use Rattle.c65_code.specs.RawMachine.{RawSetting, LieLow, MeetsRow}
use Rattle.c65_rtl.specs.Routines.{lines_of}
use Rattle.c65_rtl.specs.Short.{is_straight}

-- the shifts, whose loop turns once for each bit
abbrev pub is_shift : Routine → Bool
is_shift (routines.Tos tos.Shl width) = true
is_shift (routines.Tos tos.Shr width) = true
is_shift (routines.Tos tos.Asr width) = true
is_shift _ = false

-- the routines for which this is shown: those without loops and calls, and the shifts
abbrev pub is_shown : Routine → Bool
is_shown r = is_straight r || is_shift r

-- wherever the routine's lines stand under its number
abbrev pub RowsAreMet : Type 0
RowsAreMet = (s : RawSetting) (r : Routine) → IsTrue (is_shown r) → s.lines (s.routine r) ≡ lines_of r → MeetsRow s r

-- every placement of a code keeps data there
abbrev pub PlacementsLieLow : Type 0
PlacementsLieLow = (code : Code) (place : Placement) → IsPlacement code place → LieLow place
