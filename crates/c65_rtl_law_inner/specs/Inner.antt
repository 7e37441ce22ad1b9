-- What the routines need that the library's functions call: bytes of both stacks, and instructions.
use Rattle.std.specs.Prelude.{◌≡◌, ℕ}
use Rattle.c65_code.specs.declared.routine.Count.TheVariants.{One, Four}
use Rattle.c65_code.specs.declared.routine.Routine.{Routine}
use Rattle.c65_code.specs.declared.routine.Routine.TheVariants as routines
use Rattle.c65_code.specs.declared.routine.UnaryRoutine.TheVariants.{Neg}
use Rattle.c65_code.specs.declared.routine.Width.TheVariants.{Eax}
use Rattle.c65_code.specs.Rows.{Row}
use Rattle.c65_code.specs.RawMachine.{RawSetting}
use Rattle.c65_rtl.specs.Routines.{lines_of}
use Rattle.c65_rtl_law_walks.specs.Inside.{MeetsIn}

-- bytes below the sp
abbrev pub below_of : Routine → ℕ
below_of routines.PushA = 1
below_of routines.PushAx = 2
below_of routines.Push0 = 2
below_of _ = 0

-- bytes of page 1 below the return point
abbrev pub pushed_of : Routine → ℕ
pushed_of routines.PushAx = 1
pushed_of routines.Push0 = 1
pushed_of _ = 0

-- instructions, where a branch weighs 2
abbrev pub weight_of : Routine → Row → ℕ
weight_of (routines.IncSp One) row = 5
weight_of (routines.IncSp Four) row = 10
weight_of routines.PopA row = 7
weight_of routines.PopAx row = 15
weight_of routines.PopEax row = 21
weight_of routines.PushA row = 8
weight_of routines.PushAx row = 15
weight_of routines.Push0 row = 17
weight_of routines.LdAxYSp row = 5
weight_of (routines.Unary Neg Eax) row = 18
weight_of _ row = 0

-- wherever the routine's lines stand under its number
abbrev pub IsMetIn : Routine → Type 0
IsMetIn r = (s : RawSetting) → s.lines (s.routine r) ≡ lines_of r → MeetsIn s (below_of r) (pushed_of r) (weight_of r) r

-- moves of the sp, pops, loads and the negative of 32 bits
abbrev pub InnerRowsAreMet : Type 0
InnerRowsAreMet = IsMetIn (routines.IncSp One) × IsMetIn (routines.IncSp Four) × IsMetIn routines.PopA × IsMetIn routines.PopAx × IsMetIn routines.PopEax × IsMetIn routines.LdAxYSp × IsMetIn (routines.Unary Neg Eax)

abbrev pub InnerPushesAreMet : Type 0
InnerPushesAreMet = IsMetIn routines.PushA × IsMetIn routines.PushAx × IsMetIn routines.Push0
