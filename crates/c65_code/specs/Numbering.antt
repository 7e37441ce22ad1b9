-- The number of each routine: its place in the table of all routines, in which each stands before those that it calls.
use Rattle.std.specs.Prelude.{◌≡◌, ℕ, ◌+◌, Some, slice_get}
use Rattle.c65_base.specs.declared.library.Library.{Library}
use Rattle.c65_base.specs.declared.library.Library.TheVariants.{Putchar, Getchar, Puts, Exit, Memcpy, Memset, Strcmp, Strcpy, Strlen, Printf}
use Rattle.c65_code.specs.declared.routine.Count.{Count}
use Rattle.c65_code.specs.declared.routine.Count.TheVariants.{One, Two, Three, Four, Five, Six, Seven, Eight}
use Rattle.c65_code.specs.declared.routine.Width.TheVariants.{Ax, Eax}
use Rattle.c65_code.specs.declared.routine.TosOp.{TosOp}
use Rattle.c65_code.specs.declared.routine.TosOp.TheVariants as tos
use Rattle.c65_code.specs.declared.routine.UnaryRoutine.{UnaryRoutine}
use Rattle.c65_code.specs.declared.routine.UnaryRoutine.TheVariants.{Neg, Compl, Shl1, Shr1, Asr1, BNeg}
use Rattle.c65_code.specs.declared.routine.Routine.{Routine}
use Rattle.c65_code.specs.declared.routine.Routine.TheVariants as routines
use Rattle.c65_code.specs.declared.routine.TheConstants.Routine.{ALL}

abbrev pub count_number : Count → ℕ
count_number One = 0
count_number Two = 1
count_number Three = 2
count_number Four = 3
count_number Five = 4
count_number Six = 5
count_number Seven = 6
count_number Eight = 7

abbrev pub library_number : Library → ℕ
library_number Puts = 0
library_number Getchar = 1
library_number Exit = 2
library_number Memcpy = 3
library_number Memset = 4
library_number Strcmp = 5
library_number Strcpy = 6
library_number Putchar = 7
library_number Strlen = 8
library_number Printf = 9

abbrev pub operator_number : TosOp → ℕ
operator_number tos.Add = 0
operator_number tos.Sub = 1
operator_number tos.Mul = 2
operator_number tos.And = 3
operator_number tos.Or = 4
operator_number tos.Xor = 5
operator_number tos.Div = 6
operator_number tos.Mod = 7
operator_number tos.UDiv = 8
operator_number tos.UMod = 9
operator_number tos.Shl = 10
operator_number tos.Shr = 11
operator_number tos.Asr = 12
operator_number tos.Eq = 13
operator_number tos.Ne = 14
operator_number tos.Lt = 15
operator_number tos.Le = 16
operator_number tos.Gt = 17
operator_number tos.Ge = 18
operator_number tos.ULt = 19
operator_number tos.ULe = 20
operator_number tos.UGt = 21
operator_number tos.UGe = 22

abbrev pub unary_number : UnaryRoutine → ℕ
unary_number Neg = 0
unary_number Compl = 1
unary_number Shl1 = 2
unary_number Shr1 = 3
unary_number Asr1 = 4
unary_number BNeg = 5

-- its place in the table of all
abbrev pub number_of : Routine → ℕ
number_of routines.Start = 0
number_of routines.StartArgs = 1
number_of (routines.Library f) = 2 + library_number f
number_of (routines.Tos op Ax) = 12 + operator_number op
number_of (routines.Tos op Eax) = 35 + operator_number op
number_of routines.PushA = 58
number_of routines.PushAx = 59
number_of routines.PushA0 = 60
number_of routines.Push0 = 61
number_of routines.PushEax = 62
number_of routines.PopA = 63
number_of routines.PopAx = 64
number_of routines.PopEax = 65
number_of routines.PopPtrs = 66
number_of (routines.IncSp count) = 67 + count_number count
number_of (routines.DecSp count) = 75 + count_number count
number_of routines.AddYSp = 83
number_of routines.SubYSp = 84
number_of routines.LdAxYSp = 85
number_of routines.LdAx0Sp = 86
number_of routines.LdEaxYSp = 87
number_of routines.StAxYSp = 88
number_of routines.StAx0Sp = 89
number_of routines.StEaxYSp = 90
number_of routines.LdAi = 91
number_of routines.LdAxi = 92
number_of routines.LdEaxi = 93
number_of routines.StATos = 94
number_of routines.StAxTos = 95
number_of routines.StEaxTos = 96
number_of routines.CopyTos = 97
number_of (routines.Unary op Ax) = 98 + unary_number op
number_of (routines.Unary op Eax) = 104 + unary_number op
number_of routines.SignA = 110
number_of routines.LongAx = 111
number_of routines.ULongAx = 112
number_of routines.SaveRegs = 113
number_of routines.RestRegs = 114
number_of routines.CallPtr4 = 115
number_of routines.StkChk = 116
number_of routines.HookOpen = 117
number_of routines.HookClose = 118
number_of routines.HookRead = 119
number_of routines.HookWrite = 120
number_of routines.HookArgs = 121
number_of routines.HookExit = 122

abbrev pub RoutinesAreNumbered : Type 0
RoutinesAreNumbered = (r : Routine) → slice_get ALL (number_of r) ≡ Some r
