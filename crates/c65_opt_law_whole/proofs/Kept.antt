-- Bytes and names: what lines have by their operands.
use Rattle.std.proofs.Common.{◌≡◌, ℕ, ◌<◌, List, [], ◌∷◌, Some, arith}
use Rattle.std.specs.Prelude.{bit_and, bit_or, bit_xor}
use Rattle.std.proofs.lemmas.Nat.{and_le_l, or_lt, xor_lt}
use Rattle.c65_mach.specs.declared.rows.Op.{Op}
use Rattle.c65_mach.specs.declared.rows.Op.TheVariants as ops
use Rattle.c65_mach.specs.declared.rows.Mode.{Mode}
use Rattle.c65_code.specs.declared.line.Line.{Line}
use Rattle.c65_code.specs.declared.line.Line.TheVariants.{Do}
use Rattle.c65_code.specs.declared.line.Operand.{Operand}
use Rattle.c65_code.specs.declared.line.Operand.TheVariants.{Byte}
use Rattle.c65_code.specs.declared.line.Sym.{Sym}
use Rattle.c65_code.specs.Named.{LineNames}
use Rattle.c65_pass.specs.ArithRules.{mixed}
use Rattle.c65_pass.specs.Rewriting.{rewritten}
use Rattle.c65_opt_law_straight.specs.Laws.{IsByteLine}
use Rattle.c65_opt_law_follow.specs.Laws.{AreByteLines}
use Rattle.c65_opt_law_whole.specs.Laws.{RuleKeepsBytes}
use Rattle.c65_opt_law_whole.proofs.Copies.{IsOfOperands, Each, Makes, each_rewritten}

byte_moved : (op next : Op) (mode there : Mode) (operand : Operand) → IsByteLine (Do op mode operand) → IsByteLine (Do next there operand)
byte_moved op next mode there (Byte v) h = h
byte_moved op next mode there _ h = tt

byte_mixed : (op next : Op) (v u x : ℕ) → v < 256 → u < 256 → mixed next v u ≡ Some x → x < 256
byte_mixed op ops.And v u x h k e = let same : bit_and v u ≡ x = cc in omega (arith, same, and_le_l v u, h)
byte_mixed op ops.Ora v u x h k e = let same : bit_or v u ≡ x = cc in let less : bit_or v u < 256 = or_lt 8 v u h k in omega (arith, same, less)
byte_mixed op ops.Eor v u x h k e = let same : bit_xor v u ≡ x = cc in let less : bit_xor v u < 256 = xor_lt 8 v u h k in omega (arith, same, less)
byte_mixed op _ v u x h k e = absurd cc

pub bytes_of_operands : IsOfOperands IsByteLine
bytes_of_operands = record {
  moved = byte_moved;
  nothing = λ op mode. tt;
  to = λ op mode l. tt;
  zero_page = λ op mode i. tt;
  byte = λ op mode v less. less;
  mix = byte_mixed;
  call = λ r. tt;
}

-- what a line names is of a kind
abbrev pub NamesIn : (ℕ → Type 0) → Line → Type 0
NamesIn N line = (f : ℕ) → LineNames line f → N f

pub names_of_operands : (N : ℕ → Type 0) → IsOfOperands (NamesIn N)
names_of_operands N = record {
  moved = λ op next mode there operand h. h;
  nothing = λ op mode f k. absurd k;
  to = λ op mode l f k. absurd k;
  zero_page = λ op mode i f k. absurd k;
  byte = λ op mode v less f k. absurd k;
  mix = λ op next v w x h k e f m. absurd m;
  call = λ r f k. absurd k;
}

each_byte : (lines : List Line) → AreByteLines lines → Each IsByteLine lines
each_byte [] h = tt
each_byte (line ∷ lines) h = (h.0, each_byte lines h.1)

all_bytes : (lines : List Line) → Each IsByteLine lines → AreByteLines lines
all_bytes [] h = tt
all_bytes (line ∷ lines) h = (h.0, all_bytes lines h.1)

pub keeps_bytes : (literals : List (Sym × List ℕ)) (rule : ℕ) → Makes IsByteLine rule → RuleKeepsBytes literals rule
keeps_bytes literals rule makes out lines table at w h m =
    let before = each_byte lines h in
    all_bytes (rewritten lines w) (each_rewritten IsByteLine lines w before (makes literals out lines table at w before m))
