-- The routines without loops and calls are short.
use Rattle.std.proofs.Common.{◌≡◌, List, IsTrue, false, refl, subst, sym}
use Rattle.c65_code.specs.declared.line.Line.{Line}
use Rattle.c65_code.specs.declared.routine.Routine.{Routine}
use Rattle.c65_code.specs.declared.routine.Routine.TheVariants as routines
use Rattle.c65_code.specs.declared.routine.TosOp.{TosOp}
use Rattle.c65_code.specs.declared.routine.TosOp.TheVariants as tos
use Rattle.c65_code.specs.declared.routine.UnaryRoutine.{UnaryRoutine}
use Rattle.c65_code.specs.declared.routine.UnaryRoutine.TheVariants.{Neg, Compl, Shl1, Shr1, Asr1, BNeg}
use Rattle.c65_code.specs.declared.routine.Count.{Count}
use Rattle.c65_code.specs.declared.routine.Count.TheVariants.{One, Two, Three, Four, Five, Six, Seven, Eight}
use Rattle.c65_code.specs.declared.routine.Width.{Width}
use Rattle.c65_code.specs.declared.routine.Width.TheVariants.{Ax, Eax}
use Rattle.c65_rtl.specs.Routines.{lines_of}
use Rattle.c65_rtl.specs.Short.{IsShort, is_straight, cost_of}

false_true : IsTrue false → ⊥
false_true h = cc

word_operator : (op : TosOp) → IsTrue (is_straight (routines.Tos op Ax)) → IsShort 256 (lines_of (routines.Tos op Ax))
word_operator tos.Add h = record { onward = refl; weight = refl; depth = refl }
word_operator tos.Sub h = record { onward = refl; weight = refl; depth = refl }
word_operator tos.Mul h = absurd (false_true h)
word_operator tos.And h = record { onward = refl; weight = refl; depth = refl }
word_operator tos.Or h = record { onward = refl; weight = refl; depth = refl }
word_operator tos.Xor h = record { onward = refl; weight = refl; depth = refl }
word_operator tos.Div h = absurd (false_true h)
word_operator tos.Mod h = absurd (false_true h)
word_operator tos.UDiv h = absurd (false_true h)
word_operator tos.UMod h = absurd (false_true h)
word_operator tos.Shl h = absurd (false_true h)
word_operator tos.Shr h = absurd (false_true h)
word_operator tos.Asr h = absurd (false_true h)
word_operator tos.Eq h = record { onward = refl; weight = refl; depth = refl }
word_operator tos.Ne h = record { onward = refl; weight = refl; depth = refl }
word_operator tos.Lt h = record { onward = refl; weight = refl; depth = refl }
word_operator tos.Le h = record { onward = refl; weight = refl; depth = refl }
word_operator tos.Gt h = record { onward = refl; weight = refl; depth = refl }
word_operator tos.Ge h = record { onward = refl; weight = refl; depth = refl }
word_operator tos.ULt h = record { onward = refl; weight = refl; depth = refl }
word_operator tos.ULe h = record { onward = refl; weight = refl; depth = refl }
word_operator tos.UGt h = record { onward = refl; weight = refl; depth = refl }
word_operator tos.UGe h = record { onward = refl; weight = refl; depth = refl }

long_operator : (op : TosOp) → IsTrue (is_straight (routines.Tos op Eax)) → IsShort 256 (lines_of (routines.Tos op Eax))
long_operator tos.Add h = record { onward = refl; weight = refl; depth = refl }
long_operator tos.Sub h = record { onward = refl; weight = refl; depth = refl }
long_operator tos.Mul h = absurd (false_true h)
long_operator tos.And h = record { onward = refl; weight = refl; depth = refl }
long_operator tos.Or h = record { onward = refl; weight = refl; depth = refl }
long_operator tos.Xor h = record { onward = refl; weight = refl; depth = refl }
long_operator tos.Div h = absurd (false_true h)
long_operator tos.Mod h = absurd (false_true h)
long_operator tos.UDiv h = absurd (false_true h)
long_operator tos.UMod h = absurd (false_true h)
long_operator tos.Shl h = absurd (false_true h)
long_operator tos.Shr h = absurd (false_true h)
long_operator tos.Asr h = absurd (false_true h)
long_operator tos.Eq h = record { onward = refl; weight = refl; depth = refl }
long_operator tos.Ne h = record { onward = refl; weight = refl; depth = refl }
long_operator tos.Lt h = record { onward = refl; weight = refl; depth = refl }
long_operator tos.Le h = record { onward = refl; weight = refl; depth = refl }
long_operator tos.Gt h = record { onward = refl; weight = refl; depth = refl }
long_operator tos.Ge h = record { onward = refl; weight = refl; depth = refl }
long_operator tos.ULt h = record { onward = refl; weight = refl; depth = refl }
long_operator tos.ULe h = record { onward = refl; weight = refl; depth = refl }
long_operator tos.UGt h = record { onward = refl; weight = refl; depth = refl }
long_operator tos.UGe h = record { onward = refl; weight = refl; depth = refl }

unary : (op : UnaryRoutine) (width : Width) → IsShort 256 (lines_of (routines.Unary op width))
unary Neg Ax = record { onward = refl; weight = refl; depth = refl }
unary Neg Eax = record { onward = refl; weight = refl; depth = refl }
unary Compl Ax = record { onward = refl; weight = refl; depth = refl }
unary Compl Eax = record { onward = refl; weight = refl; depth = refl }
unary Shl1 Ax = record { onward = refl; weight = refl; depth = refl }
unary Shl1 Eax = record { onward = refl; weight = refl; depth = refl }
unary Shr1 Ax = record { onward = refl; weight = refl; depth = refl }
unary Shr1 Eax = record { onward = refl; weight = refl; depth = refl }
unary Asr1 Ax = record { onward = refl; weight = refl; depth = refl }
unary Asr1 Eax = record { onward = refl; weight = refl; depth = refl }
unary BNeg Ax = record { onward = refl; weight = refl; depth = refl }
unary BNeg Eax = record { onward = refl; weight = refl; depth = refl }

raised : (count : Count) → IsShort 32 (lines_of (routines.IncSp count))
raised One = record { onward = refl; weight = refl; depth = refl }
raised Two = record { onward = refl; weight = refl; depth = refl }
raised Three = record { onward = refl; weight = refl; depth = refl }
raised Four = record { onward = refl; weight = refl; depth = refl }
raised Five = record { onward = refl; weight = refl; depth = refl }
raised Six = record { onward = refl; weight = refl; depth = refl }
raised Seven = record { onward = refl; weight = refl; depth = refl }
raised Eight = record { onward = refl; weight = refl; depth = refl }

lowered : (count : Count) → IsShort 32 (lines_of (routines.DecSp count))
lowered One = record { onward = refl; weight = refl; depth = refl }
lowered Two = record { onward = refl; weight = refl; depth = refl }
lowered Three = record { onward = refl; weight = refl; depth = refl }
lowered Four = record { onward = refl; weight = refl; depth = refl }
lowered Five = record { onward = refl; weight = refl; depth = refl }
lowered Six = record { onward = refl; weight = refl; depth = refl }
lowered Seven = record { onward = refl; weight = refl; depth = refl }
lowered Eight = record { onward = refl; weight = refl; depth = refl }

short_of : (which : Routine) → IsTrue (is_straight which) → IsShort (cost_of which) (lines_of which)
short_of routines.PushA h = record { onward = refl; weight = refl; depth = refl }
short_of routines.PushAx h = record { onward = refl; weight = refl; depth = refl }
short_of routines.PushA0 h = record { onward = refl; weight = refl; depth = refl }
short_of routines.Push0 h = record { onward = refl; weight = refl; depth = refl }
short_of routines.PushEax h = record { onward = refl; weight = refl; depth = refl }
short_of routines.PopA h = record { onward = refl; weight = refl; depth = refl }
short_of routines.PopAx h = record { onward = refl; weight = refl; depth = refl }
short_of routines.PopEax h = record { onward = refl; weight = refl; depth = refl }
short_of routines.PopPtrs h = record { onward = refl; weight = refl; depth = refl }
short_of routines.AddYSp h = record { onward = refl; weight = refl; depth = refl }
short_of routines.SubYSp h = record { onward = refl; weight = refl; depth = refl }
short_of routines.LdAxYSp h = record { onward = refl; weight = refl; depth = refl }
short_of routines.LdAx0Sp h = record { onward = refl; weight = refl; depth = refl }
short_of routines.LdEaxYSp h = record { onward = refl; weight = refl; depth = refl }
short_of routines.StAxYSp h = record { onward = refl; weight = refl; depth = refl }
short_of routines.StAx0Sp h = record { onward = refl; weight = refl; depth = refl }
short_of routines.StEaxYSp h = record { onward = refl; weight = refl; depth = refl }
short_of routines.LdAi h = record { onward = refl; weight = refl; depth = refl }
short_of routines.LdAxi h = record { onward = refl; weight = refl; depth = refl }
short_of routines.LdEaxi h = record { onward = refl; weight = refl; depth = refl }
short_of routines.StATos h = record { onward = refl; weight = refl; depth = refl }
short_of routines.StAxTos h = record { onward = refl; weight = refl; depth = refl }
short_of routines.StEaxTos h = record { onward = refl; weight = refl; depth = refl }
short_of routines.SignA h = record { onward = refl; weight = refl; depth = refl }
short_of routines.LongAx h = record { onward = refl; weight = refl; depth = refl }
short_of routines.ULongAx h = record { onward = refl; weight = refl; depth = refl }
short_of routines.SaveRegs h = record { onward = refl; weight = refl; depth = refl }
short_of routines.RestRegs h = record { onward = refl; weight = refl; depth = refl }
short_of routines.CallPtr4 h = record { onward = refl; weight = refl; depth = refl }
short_of (routines.IncSp count) h = raised count
short_of (routines.DecSp count) h = lowered count
short_of (routines.Tos op Ax) h = word_operator op h
short_of (routines.Tos op Eax) h = long_operator op h
short_of (routines.Unary op width) h = unary op width
short_of routines.CopyTos h = absurd (false_true h)
short_of routines.Start h = absurd (false_true h)
short_of routines.StartArgs h = absurd (false_true h)
short_of routines.StkChk h = absurd (false_true h)
short_of routines.HookOpen h = absurd (false_true h)
short_of routines.HookClose h = absurd (false_true h)
short_of routines.HookRead h = absurd (false_true h)
short_of routines.HookWrite h = absurd (false_true h)
short_of routines.HookArgs h = absurd (false_true h)
short_of routines.HookExit h = absurd (false_true h)
short_of (routines.Library function) h = absurd (false_true h)

-- lines that are the routine's
pub short_lines : (which : Routine) (lines : List Line) → IsTrue (is_straight which) → lines ≡ lines_of which → IsShort (cost_of which) lines
short_lines which lines h e = let P : List Line → Type 0 = λ l. IsShort (cost_of which) l in subst P (sym e) (short_of which h)
