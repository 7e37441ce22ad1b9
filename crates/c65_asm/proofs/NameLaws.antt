-- Names of operations and routines are words, and are read as themselves.
use Rattle.std.proofs.Common.{◌≡◌, ℕ, List, not, true, false, Some, refl, sym, subst}
use Rattle.std.proofs.lemmas.Bool.{false≢true}
use Rattle.c65_mach.specs.declared.rows.Op.{Op}
use Rattle.c65_mach.specs.declared.rows.Op.TheVariants as ops
use Rattle.c65_code.specs.declared.routine.Count.{Count}
use Rattle.c65_code.specs.declared.routine.Count.TheVariants.{One, Two, Three, Four, Five, Six, Seven, Eight}
use Rattle.c65_code.specs.declared.routine.Width.{Width}
use Rattle.c65_code.specs.declared.routine.Width.TheVariants.{Ax, Eax}
use Rattle.c65_code.specs.declared.routine.TosOp.{TosOp}
use Rattle.c65_code.specs.declared.routine.TosOp.TheVariants as tos
use Rattle.c65_code.specs.declared.routine.UnaryRoutine.{UnaryRoutine}
use Rattle.c65_code.specs.declared.routine.UnaryRoutine.TheVariants.{Neg, Compl, Shl1, Shr1, Asr1, BNeg}
use Rattle.c65_base.specs.declared.library.Library.{Library}
use Rattle.c65_base.specs.declared.library.Library.TheVariants.{Putchar, Getchar, Puts, Exit, Memcpy, Memset, Strcmp, Strcpy, Strlen, Printf}
use Rattle.c65_code.specs.declared.routine.Routine.{Routine}
use Rattle.c65_code.specs.declared.routine.Routine.TheVariants as routines
use Rattle.c65_base.specs.Library.{library_name}
use Rattle.c65_code.specs.Names.{name_of, raise_name_of, lower_name_of, word_name_of, long_name_of, unary_name_of}
use Rattle.c65_code.specs.Segments.{is_barred}
use Rattle.c65_asm.specs.Text.{mnemonic_of}
use Rattle.c65_asm.specs.Rows.{op_named, is_jsr}
use Rattle.c65_asm.proofs.WordLaws.{is_word}

pub op_read : (op : Op) → op_named (mnemonic_of op) ≡ Some op
op_read ops.Adc = refl
op_read ops.And = refl
op_read ops.Asl = refl
op_read ops.Bcc = refl
op_read ops.Bcs = refl
op_read ops.Beq = refl
op_read ops.Bit = refl
op_read ops.Bmi = refl
op_read ops.Bne = refl
op_read ops.Bpl = refl
op_read ops.Bra = refl
op_read ops.Brk = refl
op_read ops.Bvc = refl
op_read ops.Bvs = refl
op_read ops.Clc = refl
op_read ops.Cld = refl
op_read ops.Cli = refl
op_read ops.Clv = refl
op_read ops.Cmp = refl
op_read ops.Cpx = refl
op_read ops.Cpy = refl
op_read ops.Dec = refl
op_read ops.Dex = refl
op_read ops.Dey = refl
op_read ops.Eor = refl
op_read ops.Inc = refl
op_read ops.Inx = refl
op_read ops.Iny = refl
op_read ops.Jmp = refl
op_read ops.Jsr = refl
op_read ops.Lda = refl
op_read ops.Ldx = refl
op_read ops.Ldy = refl
op_read ops.Lsr = refl
op_read ops.Nop = refl
op_read ops.Ora = refl
op_read ops.Pha = refl
op_read ops.Php = refl
op_read ops.Phx = refl
op_read ops.Phy = refl
op_read ops.Pla = refl
op_read ops.Plp = refl
op_read ops.Plx = refl
op_read ops.Ply = refl
op_read ops.Rol = refl
op_read ops.Ror = refl
op_read ops.Rti = refl
op_read ops.Rts = refl
op_read ops.Sbc = refl
op_read ops.Sec = refl
op_read ops.Sed = refl
op_read ops.Sei = refl
op_read ops.Sta = refl
op_read ops.Stx = refl
op_read ops.Sty = refl
op_read ops.Stz = refl
op_read ops.Tax = refl
op_read ops.Tay = refl
op_read ops.Trb = refl
op_read ops.Tsb = refl
op_read ops.Tsx = refl
op_read ops.Txa = refl
op_read ops.Txs = refl
op_read ops.Tya = refl

-- whatever list the operation of a name was found in
pub op_given : (op : Op) (name : List ℕ) → mnemonic_of op ≡ name → Some op ≡ op_named name
op_given op name is = subst (λ (n : List ℕ). Some op ≡ op_named n) is (sym (op_read op))

pub mnemonic_word : (op : Op) → is_word (mnemonic_of op) ≡ true
mnemonic_word ops.Adc = refl
mnemonic_word ops.And = refl
mnemonic_word ops.Asl = refl
mnemonic_word ops.Bcc = refl
mnemonic_word ops.Bcs = refl
mnemonic_word ops.Beq = refl
mnemonic_word ops.Bit = refl
mnemonic_word ops.Bmi = refl
mnemonic_word ops.Bne = refl
mnemonic_word ops.Bpl = refl
mnemonic_word ops.Bra = refl
mnemonic_word ops.Brk = refl
mnemonic_word ops.Bvc = refl
mnemonic_word ops.Bvs = refl
mnemonic_word ops.Clc = refl
mnemonic_word ops.Cld = refl
mnemonic_word ops.Cli = refl
mnemonic_word ops.Clv = refl
mnemonic_word ops.Cmp = refl
mnemonic_word ops.Cpx = refl
mnemonic_word ops.Cpy = refl
mnemonic_word ops.Dec = refl
mnemonic_word ops.Dex = refl
mnemonic_word ops.Dey = refl
mnemonic_word ops.Eor = refl
mnemonic_word ops.Inc = refl
mnemonic_word ops.Inx = refl
mnemonic_word ops.Iny = refl
mnemonic_word ops.Jmp = refl
mnemonic_word ops.Jsr = refl
mnemonic_word ops.Lda = refl
mnemonic_word ops.Ldx = refl
mnemonic_word ops.Ldy = refl
mnemonic_word ops.Lsr = refl
mnemonic_word ops.Nop = refl
mnemonic_word ops.Ora = refl
mnemonic_word ops.Pha = refl
mnemonic_word ops.Php = refl
mnemonic_word ops.Phx = refl
mnemonic_word ops.Phy = refl
mnemonic_word ops.Pla = refl
mnemonic_word ops.Plp = refl
mnemonic_word ops.Plx = refl
mnemonic_word ops.Ply = refl
mnemonic_word ops.Rol = refl
mnemonic_word ops.Ror = refl
mnemonic_word ops.Rti = refl
mnemonic_word ops.Rts = refl
mnemonic_word ops.Sbc = refl
mnemonic_word ops.Sec = refl
mnemonic_word ops.Sed = refl
mnemonic_word ops.Sei = refl
mnemonic_word ops.Sta = refl
mnemonic_word ops.Stx = refl
mnemonic_word ops.Sty = refl
mnemonic_word ops.Stz = refl
mnemonic_word ops.Tax = refl
mnemonic_word ops.Tay = refl
mnemonic_word ops.Trb = refl
mnemonic_word ops.Tsb = refl
mnemonic_word ops.Tsx = refl
mnemonic_word ops.Txa = refl
mnemonic_word ops.Txs = refl
mnemonic_word ops.Tya = refl

-- a line's operation is no call
pub no_call : (op : Op) → not (is_barred op) ≡ true → is_jsr op ≡ false
no_call ops.Jsr h = absurd (false≢true h)
no_call _ h = refl

raise_word : (x : Count) → is_word (raise_name_of x) ≡ true
raise_word One = refl
raise_word Two = refl
raise_word Three = refl
raise_word Four = refl
raise_word Five = refl
raise_word Six = refl
raise_word Seven = refl
raise_word Eight = refl

lower_word : (x : Count) → is_word (lower_name_of x) ≡ true
lower_word One = refl
lower_word Two = refl
lower_word Three = refl
lower_word Four = refl
lower_word Five = refl
lower_word Six = refl
lower_word Seven = refl
lower_word Eight = refl

short_word : (x : TosOp) → is_word (word_name_of x) ≡ true
short_word tos.Add = refl
short_word tos.Sub = refl
short_word tos.Mul = refl
short_word tos.And = refl
short_word tos.Or = refl
short_word tos.Xor = refl
short_word tos.Div = refl
short_word tos.Mod = refl
short_word tos.UDiv = refl
short_word tos.UMod = refl
short_word tos.Shl = refl
short_word tos.Shr = refl
short_word tos.Asr = refl
short_word tos.Eq = refl
short_word tos.Ne = refl
short_word tos.Lt = refl
short_word tos.Le = refl
short_word tos.Gt = refl
short_word tos.Ge = refl
short_word tos.ULt = refl
short_word tos.ULe = refl
short_word tos.UGt = refl
short_word tos.UGe = refl

long_word : (x : TosOp) → is_word (long_name_of x) ≡ true
long_word tos.Add = refl
long_word tos.Sub = refl
long_word tos.Mul = refl
long_word tos.And = refl
long_word tos.Or = refl
long_word tos.Xor = refl
long_word tos.Div = refl
long_word tos.Mod = refl
long_word tos.UDiv = refl
long_word tos.UMod = refl
long_word tos.Shl = refl
long_word tos.Shr = refl
long_word tos.Asr = refl
long_word tos.Eq = refl
long_word tos.Ne = refl
long_word tos.Lt = refl
long_word tos.Le = refl
long_word tos.Gt = refl
long_word tos.Ge = refl
long_word tos.ULt = refl
long_word tos.ULe = refl
long_word tos.UGt = refl
long_word tos.UGe = refl

unary_word : (x : UnaryRoutine) (w : Width) → is_word (unary_name_of x w) ≡ true
unary_word Neg Ax = refl
unary_word Neg Eax = refl
unary_word Compl Ax = refl
unary_word Compl Eax = refl
unary_word Shl1 Ax = refl
unary_word Shl1 Eax = refl
unary_word Shr1 Ax = refl
unary_word Shr1 Eax = refl
unary_word Asr1 Ax = refl
unary_word Asr1 Eax = refl
unary_word BNeg Ax = refl
unary_word BNeg Eax = refl

library_word : (x : Library) → is_word (library_name x) ≡ true
library_word Putchar = refl
library_word Getchar = refl
library_word Puts = refl
library_word Exit = refl
library_word Memcpy = refl
library_word Memset = refl
library_word Strcmp = refl
library_word Strcpy = refl
library_word Strlen = refl
library_word Printf = refl

pub routine_word : (r : Routine) → is_word (name_of r) ≡ true
routine_word routines.PushA = refl
routine_word routines.PushAx = refl
routine_word routines.PushA0 = refl
routine_word routines.Push0 = refl
routine_word routines.PushEax = refl
routine_word routines.PopA = refl
routine_word routines.PopAx = refl
routine_word routines.PopEax = refl
routine_word routines.PopPtrs = refl
routine_word (routines.IncSp x) = raise_word x
routine_word (routines.DecSp x) = lower_word x
routine_word routines.AddYSp = refl
routine_word routines.SubYSp = refl
routine_word routines.LdAxYSp = refl
routine_word routines.LdAx0Sp = refl
routine_word routines.LdEaxYSp = refl
routine_word routines.StAxYSp = refl
routine_word routines.StAx0Sp = refl
routine_word routines.StEaxYSp = refl
routine_word routines.LdAi = refl
routine_word routines.LdAxi = refl
routine_word routines.LdEaxi = refl
routine_word routines.StATos = refl
routine_word routines.StAxTos = refl
routine_word routines.StEaxTos = refl
routine_word routines.CopyTos = refl
routine_word (routines.Tos x Ax) = short_word x
routine_word (routines.Tos x Eax) = long_word x
routine_word (routines.Unary x w) = unary_word x w
routine_word routines.SignA = refl
routine_word routines.LongAx = refl
routine_word routines.ULongAx = refl
routine_word routines.SaveRegs = refl
routine_word routines.RestRegs = refl
routine_word routines.CallPtr4 = refl
routine_word routines.StkChk = refl
routine_word routines.Start = refl
routine_word routines.StartArgs = refl
routine_word (routines.Library x) = library_word x
routine_word routines.HookOpen = refl
routine_word routines.HookClose = refl
routine_word routines.HookRead = refl
routine_word routines.HookWrite = refl
routine_word routines.HookArgs = refl
routine_word routines.HookExit = refl
