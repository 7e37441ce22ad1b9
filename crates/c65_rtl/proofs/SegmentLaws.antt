-- Each routine's lines keep what a segment's lines keep.
use Rattle.std.proofs.Common.{◌≡◌, List, IsTrue, false, refl, subst, sym}
use Rattle.c65_code.specs.declared.line.Line.{Line}
use Rattle.c65_code.specs.declared.routine.Routine.{Routine}
use Rattle.c65_code.specs.declared.routine.Routine.TheVariants as routines
use Rattle.c65_code.specs.declared.routine.TosOp.{TosOp}
use Rattle.c65_code.specs.declared.routine.TosOp.TheVariants as tos
use Rattle.c65_code.specs.declared.routine.UnaryRoutine.{UnaryRoutine}
use Rattle.c65_code.specs.declared.routine.UnaryRoutine.TheVariants.{Neg, Compl, Shl1, Shr1, Asr1, BNeg}
use Rattle.c65_base.specs.declared.library.Library.{Library}
use Rattle.c65_base.specs.declared.library.Library.TheVariants.{Putchar, Getchar, Puts, Exit, Memcpy, Memset, Strcmp, Strcpy, Strlen, Printf}
use Rattle.c65_code.specs.declared.routine.Count.{Count}
use Rattle.c65_code.specs.declared.routine.Count.TheVariants.{One, Two, Three, Four, Five, Six, Seven, Eight}
use Rattle.c65_code.specs.declared.routine.Width.{Width}
use Rattle.c65_code.specs.declared.routine.Width.TheVariants.{Ax, Eax}
use Rattle.c65_code.specs.Segments.{IsSegment}
use Rattle.c65_rtl.specs.Routines.{is_narrow, lines_of}

false_true : IsTrue false → ⊥
false_true h = cc

word_operator : (op : TosOp) → IsSegment (lines_of (routines.Tos op Ax))
word_operator tos.Add = record { fit = refl; labels = refl; targets = refl; closed = refl }
word_operator tos.Sub = record { fit = refl; labels = refl; targets = refl; closed = refl }
word_operator tos.Mul = record { fit = refl; labels = refl; targets = refl; closed = refl }
word_operator tos.And = record { fit = refl; labels = refl; targets = refl; closed = refl }
word_operator tos.Or = record { fit = refl; labels = refl; targets = refl; closed = refl }
word_operator tos.Xor = record { fit = refl; labels = refl; targets = refl; closed = refl }
word_operator tos.Div = record { fit = refl; labels = refl; targets = refl; closed = refl }
word_operator tos.Mod = record { fit = refl; labels = refl; targets = refl; closed = refl }
word_operator tos.UDiv = record { fit = refl; labels = refl; targets = refl; closed = refl }
word_operator tos.UMod = record { fit = refl; labels = refl; targets = refl; closed = refl }
word_operator tos.Shl = record { fit = refl; labels = refl; targets = refl; closed = refl }
word_operator tos.Shr = record { fit = refl; labels = refl; targets = refl; closed = refl }
word_operator tos.Asr = record { fit = refl; labels = refl; targets = refl; closed = refl }
word_operator tos.Eq = record { fit = refl; labels = refl; targets = refl; closed = refl }
word_operator tos.Ne = record { fit = refl; labels = refl; targets = refl; closed = refl }
word_operator tos.Lt = record { fit = refl; labels = refl; targets = refl; closed = refl }
word_operator tos.Le = record { fit = refl; labels = refl; targets = refl; closed = refl }
word_operator tos.Gt = record { fit = refl; labels = refl; targets = refl; closed = refl }
word_operator tos.Ge = record { fit = refl; labels = refl; targets = refl; closed = refl }
word_operator tos.ULt = record { fit = refl; labels = refl; targets = refl; closed = refl }
word_operator tos.ULe = record { fit = refl; labels = refl; targets = refl; closed = refl }
word_operator tos.UGt = record { fit = refl; labels = refl; targets = refl; closed = refl }
word_operator tos.UGe = record { fit = refl; labels = refl; targets = refl; closed = refl }

long_operator : (op : TosOp) → IsTrue (is_narrow (routines.Tos op Eax)) → IsSegment (lines_of (routines.Tos op Eax))
long_operator tos.Add h = record { fit = refl; labels = refl; targets = refl; closed = refl }
long_operator tos.Sub h = record { fit = refl; labels = refl; targets = refl; closed = refl }
long_operator tos.Mul h = absurd (false_true h)
long_operator tos.And h = record { fit = refl; labels = refl; targets = refl; closed = refl }
long_operator tos.Or h = record { fit = refl; labels = refl; targets = refl; closed = refl }
long_operator tos.Xor h = record { fit = refl; labels = refl; targets = refl; closed = refl }
long_operator tos.Div h = absurd (false_true h)
long_operator tos.Mod h = absurd (false_true h)
long_operator tos.UDiv h = absurd (false_true h)
long_operator tos.UMod h = absurd (false_true h)
long_operator tos.Shl h = record { fit = refl; labels = refl; targets = refl; closed = refl }
long_operator tos.Shr h = record { fit = refl; labels = refl; targets = refl; closed = refl }
long_operator tos.Asr h = record { fit = refl; labels = refl; targets = refl; closed = refl }
long_operator tos.Eq h = record { fit = refl; labels = refl; targets = refl; closed = refl }
long_operator tos.Ne h = record { fit = refl; labels = refl; targets = refl; closed = refl }
long_operator tos.Lt h = record { fit = refl; labels = refl; targets = refl; closed = refl }
long_operator tos.Le h = record { fit = refl; labels = refl; targets = refl; closed = refl }
long_operator tos.Gt h = record { fit = refl; labels = refl; targets = refl; closed = refl }
long_operator tos.Ge h = record { fit = refl; labels = refl; targets = refl; closed = refl }
long_operator tos.ULt h = record { fit = refl; labels = refl; targets = refl; closed = refl }
long_operator tos.ULe h = record { fit = refl; labels = refl; targets = refl; closed = refl }
long_operator tos.UGt h = record { fit = refl; labels = refl; targets = refl; closed = refl }
long_operator tos.UGe h = record { fit = refl; labels = refl; targets = refl; closed = refl }

unary : (op : UnaryRoutine) (width : Width) → IsSegment (lines_of (routines.Unary op width))
unary Neg Ax = record { fit = refl; labels = refl; targets = refl; closed = refl }
unary Neg Eax = record { fit = refl; labels = refl; targets = refl; closed = refl }
unary Compl Ax = record { fit = refl; labels = refl; targets = refl; closed = refl }
unary Compl Eax = record { fit = refl; labels = refl; targets = refl; closed = refl }
unary Shl1 Ax = record { fit = refl; labels = refl; targets = refl; closed = refl }
unary Shl1 Eax = record { fit = refl; labels = refl; targets = refl; closed = refl }
unary Shr1 Ax = record { fit = refl; labels = refl; targets = refl; closed = refl }
unary Shr1 Eax = record { fit = refl; labels = refl; targets = refl; closed = refl }
unary Asr1 Ax = record { fit = refl; labels = refl; targets = refl; closed = refl }
unary Asr1 Eax = record { fit = refl; labels = refl; targets = refl; closed = refl }
unary BNeg Ax = record { fit = refl; labels = refl; targets = refl; closed = refl }
unary BNeg Eax = record { fit = refl; labels = refl; targets = refl; closed = refl }

raised : (count : Count) → IsSegment (lines_of (routines.IncSp count))
raised One = record { fit = refl; labels = refl; targets = refl; closed = refl }
raised Two = record { fit = refl; labels = refl; targets = refl; closed = refl }
raised Three = record { fit = refl; labels = refl; targets = refl; closed = refl }
raised Four = record { fit = refl; labels = refl; targets = refl; closed = refl }
raised Five = record { fit = refl; labels = refl; targets = refl; closed = refl }
raised Six = record { fit = refl; labels = refl; targets = refl; closed = refl }
raised Seven = record { fit = refl; labels = refl; targets = refl; closed = refl }
raised Eight = record { fit = refl; labels = refl; targets = refl; closed = refl }

lowered : (count : Count) → IsSegment (lines_of (routines.DecSp count))
lowered One = record { fit = refl; labels = refl; targets = refl; closed = refl }
lowered Two = record { fit = refl; labels = refl; targets = refl; closed = refl }
lowered Three = record { fit = refl; labels = refl; targets = refl; closed = refl }
lowered Four = record { fit = refl; labels = refl; targets = refl; closed = refl }
lowered Five = record { fit = refl; labels = refl; targets = refl; closed = refl }
lowered Six = record { fit = refl; labels = refl; targets = refl; closed = refl }
lowered Seven = record { fit = refl; labels = refl; targets = refl; closed = refl }
lowered Eight = record { fit = refl; labels = refl; targets = refl; closed = refl }

of_library : (function : Library) → IsTrue (is_narrow (routines.Library function)) → IsSegment (lines_of (routines.Library function))
of_library Putchar h = record { fit = refl; labels = refl; targets = refl; closed = refl }
of_library Getchar h = record { fit = refl; labels = refl; targets = refl; closed = refl }
of_library Puts h = record { fit = refl; labels = refl; targets = refl; closed = refl }
of_library Exit h = record { fit = refl; labels = refl; targets = refl; closed = refl }
of_library Memcpy h = record { fit = refl; labels = refl; targets = refl; closed = refl }
of_library Memset h = record { fit = refl; labels = refl; targets = refl; closed = refl }
of_library Strcmp h = record { fit = refl; labels = refl; targets = refl; closed = refl }
of_library Strcpy h = record { fit = refl; labels = refl; targets = refl; closed = refl }
of_library Strlen h = record { fit = refl; labels = refl; targets = refl; closed = refl }
of_library Printf h = absurd (false_true h)

pub segment_of : (which : Routine) → IsTrue (is_narrow which) → IsSegment (lines_of which)
segment_of routines.PushA h = record { fit = refl; labels = refl; targets = refl; closed = refl }
segment_of routines.PushAx h = record { fit = refl; labels = refl; targets = refl; closed = refl }
segment_of routines.PushA0 h = record { fit = refl; labels = refl; targets = refl; closed = refl }
segment_of routines.Push0 h = record { fit = refl; labels = refl; targets = refl; closed = refl }
segment_of routines.PushEax h = record { fit = refl; labels = refl; targets = refl; closed = refl }
segment_of routines.PopA h = record { fit = refl; labels = refl; targets = refl; closed = refl }
segment_of routines.PopAx h = record { fit = refl; labels = refl; targets = refl; closed = refl }
segment_of routines.PopEax h = record { fit = refl; labels = refl; targets = refl; closed = refl }
segment_of routines.PopPtrs h = record { fit = refl; labels = refl; targets = refl; closed = refl }
segment_of routines.AddYSp h = record { fit = refl; labels = refl; targets = refl; closed = refl }
segment_of routines.SubYSp h = record { fit = refl; labels = refl; targets = refl; closed = refl }
segment_of routines.LdAxYSp h = record { fit = refl; labels = refl; targets = refl; closed = refl }
segment_of routines.LdAx0Sp h = record { fit = refl; labels = refl; targets = refl; closed = refl }
segment_of routines.LdEaxYSp h = record { fit = refl; labels = refl; targets = refl; closed = refl }
segment_of routines.StAxYSp h = record { fit = refl; labels = refl; targets = refl; closed = refl }
segment_of routines.StAx0Sp h = record { fit = refl; labels = refl; targets = refl; closed = refl }
segment_of routines.StEaxYSp h = record { fit = refl; labels = refl; targets = refl; closed = refl }
segment_of routines.LdAi h = record { fit = refl; labels = refl; targets = refl; closed = refl }
segment_of routines.LdAxi h = record { fit = refl; labels = refl; targets = refl; closed = refl }
segment_of routines.LdEaxi h = record { fit = refl; labels = refl; targets = refl; closed = refl }
segment_of routines.StATos h = record { fit = refl; labels = refl; targets = refl; closed = refl }
segment_of routines.StAxTos h = record { fit = refl; labels = refl; targets = refl; closed = refl }
segment_of routines.StEaxTos h = record { fit = refl; labels = refl; targets = refl; closed = refl }
segment_of routines.CopyTos h = record { fit = refl; labels = refl; targets = refl; closed = refl }
segment_of routines.SignA h = record { fit = refl; labels = refl; targets = refl; closed = refl }
segment_of routines.LongAx h = record { fit = refl; labels = refl; targets = refl; closed = refl }
segment_of routines.ULongAx h = record { fit = refl; labels = refl; targets = refl; closed = refl }
segment_of routines.SaveRegs h = record { fit = refl; labels = refl; targets = refl; closed = refl }
segment_of routines.RestRegs h = record { fit = refl; labels = refl; targets = refl; closed = refl }
segment_of routines.CallPtr4 h = record { fit = refl; labels = refl; targets = refl; closed = refl }
segment_of routines.Start h = record { fit = refl; labels = refl; targets = refl; closed = refl }
segment_of routines.StartArgs h = record { fit = refl; labels = refl; targets = refl; closed = refl }
segment_of routines.StkChk h = record { fit = refl; labels = refl; targets = refl; closed = refl }
segment_of (routines.IncSp count) h = raised count
segment_of (routines.DecSp count) h = lowered count
segment_of (routines.Tos op Ax) h = word_operator op
segment_of (routines.Tos op Eax) h = long_operator op h
segment_of (routines.Unary op width) h = unary op width
segment_of (routines.Library function) h = of_library function h
segment_of routines.HookOpen h = absurd (false_true h)
segment_of routines.HookClose h = absurd (false_true h)
segment_of routines.HookRead h = absurd (false_true h)
segment_of routines.HookWrite h = absurd (false_true h)
segment_of routines.HookArgs h = absurd (false_true h)
segment_of routines.HookExit h = absurd (false_true h)

-- lines that are the routine's
pub closes : (which : Routine) (lines : List Line) → IsTrue (is_narrow which) → lines ≡ lines_of which → IsSegment lines
closes which lines h e = subst IsSegment (sym e) (segment_of which h)
