-- The names of the runtime's routines, and which routine has a name.
use Rattle.std.specs.Prelude.{ℕ, List, [], ◌∷◌, Option, Some, None, find, codes, bytes_eq}
use Rattle.c65_code.specs.declared.routine.Count.{Count}
use Rattle.c65_code.specs.declared.routine.Count.TheVariants.{One, Two, Three, Four, Five, Six, Seven, Eight}
use Rattle.c65_code.specs.declared.routine.Width.{Width}
use Rattle.c65_code.specs.declared.routine.Width.TheVariants.{Ax, Eax}
use Rattle.c65_code.specs.declared.routine.TosOp.{TosOp}
use Rattle.c65_code.specs.declared.routine.TosOp.TheVariants as tos
use Rattle.c65_code.specs.declared.routine.UnaryRoutine.{UnaryRoutine}
use Rattle.c65_code.specs.declared.routine.UnaryRoutine.TheVariants.{Neg, Compl, Shl1, Shr1, Asr1, BNeg}
use Rattle.c65_base.specs.Library.{library_name}
use Rattle.c65_base.specs.declared.library.Library.TheVariants.{Putchar, Getchar, Puts, Exit, Memcpy, Memset, Strcmp, Strcpy, Strlen, Printf}
use Rattle.c65_code.specs.declared.routine.Routine.{Routine}
use Rattle.c65_code.specs.declared.routine.Routine.TheVariants as routines
use Rattle.c65_code.specs.declared.routine.TheConstants.Routine.{ALL}

abbrev pub raise_name_of : Count → List ℕ
raise_name_of One = codes "incsp1"
raise_name_of Two = codes "incsp2"
raise_name_of Three = codes "incsp3"
raise_name_of Four = codes "incsp4"
raise_name_of Five = codes "incsp5"
raise_name_of Six = codes "incsp6"
raise_name_of Seven = codes "incsp7"
raise_name_of Eight = codes "incsp8"

abbrev pub lower_name_of : Count → List ℕ
lower_name_of One = codes "decsp1"
lower_name_of Two = codes "decsp2"
lower_name_of Three = codes "decsp3"
lower_name_of Four = codes "decsp4"
lower_name_of Five = codes "decsp5"
lower_name_of Six = codes "decsp6"
lower_name_of Seven = codes "decsp7"
lower_name_of Eight = codes "decsp8"

abbrev pub word_name_of : TosOp → List ℕ
word_name_of tos.Add = codes "tosaddax"
word_name_of tos.Sub = codes "tossubax"
word_name_of tos.Mul = codes "tosmulax"
word_name_of tos.And = codes "tosandax"
word_name_of tos.Or = codes "tosorax"
word_name_of tos.Xor = codes "tosxorax"
word_name_of tos.Div = codes "tosdivax"
word_name_of tos.Mod = codes "tosmodax"
word_name_of tos.UDiv = codes "tosudivax"
word_name_of tos.UMod = codes "tosumodax"
word_name_of tos.Shl = codes "tosshlax"
word_name_of tos.Shr = codes "tosshrax"
word_name_of tos.Asr = codes "tosasrax"
word_name_of tos.Eq = codes "toseqax"
word_name_of tos.Ne = codes "tosneax"
word_name_of tos.Lt = codes "tosltax"
word_name_of tos.Le = codes "tosleax"
word_name_of tos.Gt = codes "tosgtax"
word_name_of tos.Ge = codes "tosgeax"
word_name_of tos.ULt = codes "tosultax"
word_name_of tos.ULe = codes "tosuleax"
word_name_of tos.UGt = codes "tosugtax"
word_name_of tos.UGe = codes "tosugeax"

abbrev pub long_name_of : TosOp → List ℕ
long_name_of tos.Add = codes "tosaddeax"
long_name_of tos.Sub = codes "tossubeax"
long_name_of tos.Mul = codes "tosmuleax"
long_name_of tos.And = codes "tosandeax"
long_name_of tos.Or = codes "tosoreax"
long_name_of tos.Xor = codes "tosxoreax"
long_name_of tos.Div = codes "tosdiveax"
long_name_of tos.Mod = codes "tosmodeax"
long_name_of tos.UDiv = codes "tosudiveax"
long_name_of tos.UMod = codes "tosumodeax"
long_name_of tos.Shl = codes "tosshleax"
long_name_of tos.Shr = codes "tosshreax"
long_name_of tos.Asr = codes "tosasreax"
long_name_of tos.Eq = codes "toseqeax"
long_name_of tos.Ne = codes "tosneeax"
long_name_of tos.Lt = codes "toslteax"
long_name_of tos.Le = codes "tosleeax"
long_name_of tos.Gt = codes "tosgteax"
long_name_of tos.Ge = codes "tosgeeax"
long_name_of tos.ULt = codes "tosulteax"
long_name_of tos.ULe = codes "tosuleeax"
long_name_of tos.UGt = codes "tosugteax"
long_name_of tos.UGe = codes "tosugeeax"

abbrev pub unary_name_of : UnaryRoutine → Width → List ℕ
unary_name_of Neg Ax = codes "negax"
unary_name_of Neg Eax = codes "negeax"
unary_name_of Compl Ax = codes "complax"
unary_name_of Compl Eax = codes "compleax"
unary_name_of Shl1 Ax = codes "shlax1"
unary_name_of Shl1 Eax = codes "shleax1"
unary_name_of Shr1 Ax = codes "shrax1"
unary_name_of Shr1 Eax = codes "shreax1"
unary_name_of Asr1 Ax = codes "asrax1"
unary_name_of Asr1 Eax = codes "asreax1"
unary_name_of BNeg Ax = codes "bnegax"
unary_name_of BNeg Eax = codes "bnegeax"

abbrev pub name_of : Routine → List ℕ
name_of routines.PushA = codes "pusha"
name_of routines.PushAx = codes "pushax"
name_of routines.PushA0 = codes "pusha0"
name_of routines.Push0 = codes "push0"
name_of routines.PushEax = codes "pusheax"
name_of routines.PopA = codes "popa"
name_of routines.PopAx = codes "popax"
name_of routines.PopEax = codes "popeax"
name_of routines.PopPtrs = codes "popptrs"
name_of (routines.IncSp count) = raise_name_of count
name_of (routines.DecSp count) = lower_name_of count
name_of routines.AddYSp = codes "addysp"
name_of routines.SubYSp = codes "subysp"
name_of routines.LdAxYSp = codes "ldaxysp"
name_of routines.LdAx0Sp = codes "ldax0sp"
name_of routines.LdEaxYSp = codes "ldeaxysp"
name_of routines.StAxYSp = codes "staxysp"
name_of routines.StAx0Sp = codes "stax0sp"
name_of routines.StEaxYSp = codes "steaxysp"
name_of routines.LdAi = codes "ldai"
name_of routines.LdAxi = codes "ldaxi"
name_of routines.LdEaxi = codes "ldeaxi"
name_of routines.StATos = codes "statos"
name_of routines.StAxTos = codes "staxtos"
name_of routines.StEaxTos = codes "steaxtos"
name_of routines.CopyTos = codes "copytos"
name_of (routines.Tos op Ax) = word_name_of op
name_of (routines.Tos op Eax) = long_name_of op
name_of (routines.Unary op width) = unary_name_of op width
name_of routines.SignA = codes "signa"
name_of routines.LongAx = codes "longax"
name_of routines.ULongAx = codes "ulongax"
name_of routines.SaveRegs = codes "saveregs"
name_of routines.RestRegs = codes "restregs"
name_of routines.CallPtr4 = codes "callptr4"
name_of routines.StkChk = codes "stkchk"
name_of routines.Start = codes "start"
name_of routines.StartArgs = codes "startargs"
name_of (routines.Library function) = library_name function
name_of routines.HookOpen = codes "hookopen"
name_of routines.HookClose = codes "hookclose"
name_of routines.HookRead = codes "hookread"
name_of routines.HookWrite = codes "hookwrite"
name_of routines.HookArgs = codes "hookargs"
name_of routines.HookExit = codes "hookexit"

-- the first of these routines that has the name
abbrev pub found_in : List Routine → List ℕ → Option Routine
found_in routines name = find (λ r. bytes_eq (name_of r) name) routines

-- the routine that has the name
abbrev pub routine_named : List ℕ → Option Routine
routine_named name = found_in ALL name
