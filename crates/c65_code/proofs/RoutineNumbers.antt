-- Each routine stands at its number.
use Rattle.std.proofs.Common.{◌≡◌, Some, refl, slice_get}
use Rattle.c65_base.specs.declared.library.Library.{Library}
use Rattle.c65_base.specs.declared.library.Library.TheVariants.{Putchar, Getchar, Puts, Exit, Memcpy, Memset, Strcmp, Strcpy, Strlen, Printf}
use Rattle.c65_code.specs.declared.routine.Count.{Count}
use Rattle.c65_code.specs.declared.routine.Count.TheVariants.{One, Two, Three, Four, Five, Six, Seven, Eight}
use Rattle.c65_code.specs.declared.routine.Width.TheVariants.{Ax, Eax}
use Rattle.c65_code.specs.declared.routine.TosOp.{TosOp}
use Rattle.c65_code.specs.declared.routine.TosOp.TheVariants as tos
use Rattle.c65_code.specs.declared.routine.UnaryRoutine.{UnaryRoutine}
use Rattle.c65_code.specs.declared.routine.UnaryRoutine.TheVariants.{Neg, Compl, Shl1, Shr1, Asr1, BNeg}
use Rattle.c65_code.specs.declared.routine.Routine.{Routine}
use Rattle.c65_code.specs.declared.routine.Routine.TheVariants as routines
use Rattle.c65_code.specs.declared.routine.TheConstants.Routine.{ALL}
use Rattle.c65_code.specs.Numbering.{number_of, RoutinesAreNumbered}

raises_are_numbered : (x : Count) → slice_get ALL (number_of (routines.IncSp x)) ≡ Some (routines.IncSp x)
raises_are_numbered One = refl
raises_are_numbered Two = refl
raises_are_numbered Three = refl
raises_are_numbered Four = refl
raises_are_numbered Five = refl
raises_are_numbered Six = refl
raises_are_numbered Seven = refl
raises_are_numbered Eight = refl

lowers_are_numbered : (x : Count) → slice_get ALL (number_of (routines.DecSp x)) ≡ Some (routines.DecSp x)
lowers_are_numbered One = refl
lowers_are_numbered Two = refl
lowers_are_numbered Three = refl
lowers_are_numbered Four = refl
lowers_are_numbered Five = refl
lowers_are_numbered Six = refl
lowers_are_numbered Seven = refl
lowers_are_numbered Eight = refl

functions_are_numbered : (x : Library) → slice_get ALL (number_of (routines.Library x)) ≡ Some (routines.Library x)
functions_are_numbered Puts = refl
functions_are_numbered Getchar = refl
functions_are_numbered Exit = refl
functions_are_numbered Memcpy = refl
functions_are_numbered Memset = refl
functions_are_numbered Strcmp = refl
functions_are_numbered Strcpy = refl
functions_are_numbered Putchar = refl
functions_are_numbered Strlen = refl
functions_are_numbered Printf = refl

word_operators_are_numbered : (x : TosOp) → slice_get ALL (number_of (routines.Tos x Ax)) ≡ Some (routines.Tos x Ax)
word_operators_are_numbered tos.Add = refl
word_operators_are_numbered tos.Sub = refl
word_operators_are_numbered tos.Mul = refl
word_operators_are_numbered tos.And = refl
word_operators_are_numbered tos.Or = refl
word_operators_are_numbered tos.Xor = refl
word_operators_are_numbered tos.Div = refl
word_operators_are_numbered tos.Mod = refl
word_operators_are_numbered tos.UDiv = refl
word_operators_are_numbered tos.UMod = refl
word_operators_are_numbered tos.Shl = refl
word_operators_are_numbered tos.Shr = refl
word_operators_are_numbered tos.Asr = refl
word_operators_are_numbered tos.Eq = refl
word_operators_are_numbered tos.Ne = refl
word_operators_are_numbered tos.Lt = refl
word_operators_are_numbered tos.Le = refl
word_operators_are_numbered tos.Gt = refl
word_operators_are_numbered tos.Ge = refl
word_operators_are_numbered tos.ULt = refl
word_operators_are_numbered tos.ULe = refl
word_operators_are_numbered tos.UGt = refl
word_operators_are_numbered tos.UGe = refl

long_operators_are_numbered : (x : TosOp) → slice_get ALL (number_of (routines.Tos x Eax)) ≡ Some (routines.Tos x Eax)
long_operators_are_numbered tos.Add = refl
long_operators_are_numbered tos.Sub = refl
long_operators_are_numbered tos.Mul = refl
long_operators_are_numbered tos.And = refl
long_operators_are_numbered tos.Or = refl
long_operators_are_numbered tos.Xor = refl
long_operators_are_numbered tos.Div = refl
long_operators_are_numbered tos.Mod = refl
long_operators_are_numbered tos.UDiv = refl
long_operators_are_numbered tos.UMod = refl
long_operators_are_numbered tos.Shl = refl
long_operators_are_numbered tos.Shr = refl
long_operators_are_numbered tos.Asr = refl
long_operators_are_numbered tos.Eq = refl
long_operators_are_numbered tos.Ne = refl
long_operators_are_numbered tos.Lt = refl
long_operators_are_numbered tos.Le = refl
long_operators_are_numbered tos.Gt = refl
long_operators_are_numbered tos.Ge = refl
long_operators_are_numbered tos.ULt = refl
long_operators_are_numbered tos.ULe = refl
long_operators_are_numbered tos.UGt = refl
long_operators_are_numbered tos.UGe = refl

word_unary_are_numbered : (x : UnaryRoutine) → slice_get ALL (number_of (routines.Unary x Ax)) ≡ Some (routines.Unary x Ax)
word_unary_are_numbered Neg = refl
word_unary_are_numbered Compl = refl
word_unary_are_numbered Shl1 = refl
word_unary_are_numbered Shr1 = refl
word_unary_are_numbered Asr1 = refl
word_unary_are_numbered BNeg = refl

long_unary_are_numbered : (x : UnaryRoutine) → slice_get ALL (number_of (routines.Unary x Eax)) ≡ Some (routines.Unary x Eax)
long_unary_are_numbered Neg = refl
long_unary_are_numbered Compl = refl
long_unary_are_numbered Shl1 = refl
long_unary_are_numbered Shr1 = refl
long_unary_are_numbered Asr1 = refl
long_unary_are_numbered BNeg = refl

pub routines_are_numbered : RoutinesAreNumbered
routines_are_numbered routines.Start = refl
routines_are_numbered routines.StartArgs = refl
routines_are_numbered routines.PushA = refl
routines_are_numbered routines.PushAx = refl
routines_are_numbered routines.PushA0 = refl
routines_are_numbered routines.Push0 = refl
routines_are_numbered routines.PushEax = refl
routines_are_numbered routines.PopA = refl
routines_are_numbered routines.PopAx = refl
routines_are_numbered routines.PopEax = refl
routines_are_numbered routines.PopPtrs = refl
routines_are_numbered routines.AddYSp = refl
routines_are_numbered routines.SubYSp = refl
routines_are_numbered routines.LdAxYSp = refl
routines_are_numbered routines.LdAx0Sp = refl
routines_are_numbered routines.LdEaxYSp = refl
routines_are_numbered routines.StAxYSp = refl
routines_are_numbered routines.StAx0Sp = refl
routines_are_numbered routines.StEaxYSp = refl
routines_are_numbered routines.LdAi = refl
routines_are_numbered routines.LdAxi = refl
routines_are_numbered routines.LdEaxi = refl
routines_are_numbered routines.StATos = refl
routines_are_numbered routines.StAxTos = refl
routines_are_numbered routines.StEaxTos = refl
routines_are_numbered routines.CopyTos = refl
routines_are_numbered routines.SignA = refl
routines_are_numbered routines.LongAx = refl
routines_are_numbered routines.ULongAx = refl
routines_are_numbered routines.SaveRegs = refl
routines_are_numbered routines.RestRegs = refl
routines_are_numbered routines.CallPtr4 = refl
routines_are_numbered routines.StkChk = refl
routines_are_numbered routines.HookOpen = refl
routines_are_numbered routines.HookClose = refl
routines_are_numbered routines.HookRead = refl
routines_are_numbered routines.HookWrite = refl
routines_are_numbered routines.HookArgs = refl
routines_are_numbered routines.HookExit = refl
routines_are_numbered (routines.IncSp x) = raises_are_numbered x
routines_are_numbered (routines.DecSp x) = lowers_are_numbered x
routines_are_numbered (routines.Library x) = functions_are_numbered x
routines_are_numbered (routines.Tos x Ax) = word_operators_are_numbered x
routines_are_numbered (routines.Tos x Eax) = long_operators_are_numbered x
routines_are_numbered (routines.Unary x Ax) = word_unary_are_numbered x
routines_are_numbered (routines.Unary x Eax) = long_unary_are_numbered x
