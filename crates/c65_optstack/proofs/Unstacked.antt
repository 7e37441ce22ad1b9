-- The lines that do an operator on AX and a word byte by byte.
use Rattle.std.proofs.Common.{◌≡◌, ℕ, ◌&&◌, true, List, [], ◌∷◌, Some, refl, subst, arith}
use Rattle.std.specs.Prelude.{All}
use Rattle.std.specs.List.{list_all}
use Rattle.std.proofs.lemmas.Bool.{and_from, and_parts}
use Rattle.std.proofs.lemmas.List.Elements.{All-nil, All-head, All-tail, All-cons}
use Rattle.c65_mach.specs.declared.rows.Op.{Op}
use Rattle.c65_mach.specs.declared.rows.Op.TheVariants as ops
use Rattle.c65_mach.specs.declared.rows.Mode.TheVariants.{Immediate}
use Rattle.c65_code.specs.declared.routine.TosOp.{TosOp}
use Rattle.c65_code.specs.declared.routine.TosOp.TheVariants as tos
use Rattle.c65_code.specs.declared.routine.Width.TheVariants.{Ax}
use Rattle.c65_code.specs.declared.routine.Routine.TheVariants as routines
use Rattle.c65_code.specs.declared.line.Operand.{Operand}
use Rattle.c65_code.specs.declared.line.Operand.TheVariants as operands
use Rattle.c65_code.specs.declared.line.Callee.TheVariants as callees
use Rattle.c65_code.specs.declared.line.Line.{Line}
use Rattle.c65_code.specs.declared.line.Line.TheVariants.{Do, Call}
use Rattle.c65_code.specs.Segments.{is_fit, is_immediate, labels_of, target_of, targets_of}
use Rattle.c65_code.specs.Weights.{lines_size}
use Rattle.c65_code.specs.Writable.{IsLineWritable}
use Rattle.c65_pass.specs.Registers.{alone}
use Rattle.c65_pass.specs.StackRules.{call_of, word_loaded, by_bytes, operated, operated_by, unstacked}
use Rattle.c65_optstack.proofs.Shorter.{IsLess}

immediate_still : (op : Op) (v : Operand) → is_immediate v ≡ true → target_of (Do op Immediate v) ≡ []
immediate_still op (operands.Byte v) h = refl
immediate_still op (operands.Low s o) h = refl
immediate_still op (operands.High s o) h = refl
immediate_still op _ h = absurd cc

-- two lines that load a word
record IsWord (one other : Line) (h l : Operand) : Type 0 where
  bare : (rest : List Line) → labels_of (one ∷ other ∷ rest) ≡ labels_of rest
  size : lines_size (one ∷ other ∷ []) ≡ 4
  high : is_fit one ≡ true → is_fit other ≡ true → is_immediate h ≡ true
  low : is_fit one ≡ true → is_fit other ≡ true → is_immediate l ≡ true
  known_high : (n : ℕ) → IsLineWritable n one → IsLineWritable n other → IsLineWritable n (Do ops.Ldx Immediate h)
  known_low : (n : ℕ) → IsLineWritable n one → IsLineWritable n other → IsLineWritable n (Do ops.Lda Immediate l)

high_first : (h l : Operand) → IsWord (Do ops.Ldx Immediate h) (Do ops.Lda Immediate l) h l
high_first h l = record {
  bare = λ rest. refl;
  size = refl;
  high = λ p q. (and_parts (is_immediate h) true p).0;
  low = λ p q. (and_parts (is_immediate l) true q).0;
  known_high = λ n p q. p;
  known_low = λ n p q. q;
}

low_first : (h l : Operand) → IsWord (Do ops.Lda Immediate l) (Do ops.Ldx Immediate h) h l
low_first h l = record {
  bare = λ rest. refl;
  size = refl;
  high = λ p q. (and_parts (is_immediate h) true q).0;
  low = λ p q. (and_parts (is_immediate l) true p).0;
  known_high = λ n p q. q;
  known_low = λ n p q. p;
}

-- AX pushed, the word loaded, and an operator
abbrev stacked : Line → Line → TosOp → List Line
stacked one other o = call_of routines.PushAx ∷ one ∷ other ∷ call_of (routines.Tos o Ax) ∷ []

-- what the tests of the four lines say of the two loads
loads_fit : (one other : Line) (o : TosOp) → list_all is_fit (stacked one other o) ≡ true → (is_fit one ≡ true) × (is_fit other ≡ true)
loads_fit one other o f =
    let p = and_parts (is_fit one) (is_fit other && true) f in
    (p.0, (and_parts (is_fit other) true p.1).0)

loads_known : (n : ℕ) (one other : Line) (o : TosOp) → All (IsLineWritable n) (stacked one other o) → IsLineWritable n one × IsLineWritable n other
loads_known n one other o all =
    let W = IsLineWritable n in
    let rest = All-tail W (call_of routines.PushAx) (one ∷ other ∷ call_of (routines.Tos o Ax) ∷ []) all in
    let last = All-tail W one (other ∷ call_of (routines.Tos o Ax) ∷ []) rest in
    (All-head W one (other ∷ call_of (routines.Tos o Ax) ∷ []) rest, All-head W other (call_of (routines.Tos o Ax) ∷ []) last)

-- an operation that may have any immediate operand
abbrev IsByteOp : Op → Type 0
IsByteOp op = (v : Operand) → is_immediate v ≡ true → is_fit (Do op Immediate v) ≡ true

bytes_still : (op : Op) (h l : Operand) → is_immediate h ≡ true → is_immediate l ≡ true → targets_of (by_bytes op h l) ≡ []
bytes_still op h l ih il = rw (immediate_still op l il) (rw (immediate_still op h ih) refl)

bytes_fit : (op : Op) (h l : Operand) → IsByteOp op → is_immediate h ≡ true → is_immediate l ≡ true → list_all is_fit (by_bytes op h l) ≡ true
bytes_fit op h l fits ih il = and_from (is_fit (Do op Immediate l)) (is_fit (Do op Immediate h) && true) (fits l il) (and_from (is_fit (Do op Immediate h)) true (fits h ih) refl)

bytes_known : (n : ℕ) (op : Op) (h l : Operand) → IsLineWritable n (Do op Immediate h) → IsLineWritable n (Do op Immediate l) → All (IsLineWritable n) (by_bytes op h l)
bytes_known n op h l kh kl =
    let W = IsLineWritable n in
    let ends : All W (alone ops.Tax ∷ alone ops.Tya ∷ []) = All-cons W (alone ops.Tax) (alone ops.Tya ∷ []) (tt, tt) (All-cons W (alone ops.Tya) [] (tt, tt) (All-nil W)) in
    let last : All W (Do op Immediate h ∷ alone ops.Tax ∷ alone ops.Tya ∷ []) = All-cons W (Do op Immediate h) (alone ops.Tax ∷ alone ops.Tya ∷ []) kh ends in
    let moved : All W (alone ops.Txa ∷ Do op Immediate h ∷ alone ops.Tax ∷ alone ops.Tya ∷ []) = All-cons W (alone ops.Txa) (Do op Immediate h ∷ alone ops.Tax ∷ alone ops.Tya ∷ []) (tt, tt) last in
    All-cons W (Do op Immediate l) (alone ops.Tay ∷ alone ops.Txa ∷ Do op Immediate h ∷ alone ops.Tax ∷ alone ops.Tya ∷ []) kl
    (All-cons W (alone ops.Tay) (alone ops.Txa ∷ Do op Immediate h ∷ alone ops.Tax ∷ alone ops.Tya ∷ []) (tt, tt) moved)

bytes_less : (op : Op) (one other : Line) (h l : Operand) (o : TosOp) → IsByteOp op → IsWord one other h l → IsLess (stacked one other o) (by_bytes op h l)
bytes_less op one other h l o fits word = let size = word.size in record {
  stand = record {
    bare = word.bare (call_of (routines.Tos o Ax) ∷ []);
    plain = refl;
    still = λ f. let p = loads_fit one other o f in bytes_still op h l (word.high p.0 p.1) (word.low p.0 p.1);
    fit = λ f. let p = loads_fit one other o f in bytes_fit op h l fits (word.high p.0 p.1) (word.low p.0 p.1);
    onward = λ b post k. k;
    size = omega (arith, size);
    writable = λ n all. let p = loads_known n one other o all in bytes_known n op h l (word.known_high n p.0 p.1) (word.known_low n p.0 p.1);
  };
  less = omega (arith, size);
}

carry_less : (carry op : Op) (one other : Line) (h l : Operand) (o : TosOp) → is_fit (alone carry) ≡ true → IsByteOp op → IsWord one other h l
    → IsLess (stacked one other o) (alone carry ∷ by_bytes op h l)
carry_less carry op one other h l o first fits word = let size = word.size in record {
  stand = record {
    bare = word.bare (call_of (routines.Tos o Ax) ∷ []);
    plain = refl;
    still = λ f. let p = loads_fit one other o f in bytes_still op h l (word.high p.0 p.1) (word.low p.0 p.1);
    fit = λ f. let p = loads_fit one other o f in and_from (is_fit (alone carry)) (list_all is_fit (by_bytes op h l)) first (bytes_fit op h l fits (word.high p.0 p.1) (word.low p.0 p.1));
    onward = λ b post k. k;
    size = omega (arith, size);
    writable = λ n all.
        let p = loads_known n one other o all in
        All-cons (IsLineWritable n) (alone carry) (by_bytes op h l) (tt, tt) (bytes_known n op h l (word.known_high n p.0 p.1) (word.known_low n p.0 p.1));
  };
  less = omega (arith, size);
}

immediate_fit : (v : Operand) → is_immediate v ≡ true → is_fit (Do ops.Lda Immediate v) ≡ true
immediate_fit v h = and_from (is_immediate v) true h refl

operated_less : (op : TosOp) (one other : Line) (h l : Operand) (new : List Line) → IsWord one other h l → operated op h l ≡ Some new → IsLess (stacked one other op) new
operated_less tos.Add one other h l new word m =
    let is : alone ops.Clc ∷ by_bytes ops.Adc h l ≡ new = cc in subst (IsLess (stacked one other tos.Add)) is (carry_less ops.Clc ops.Adc one other h l tos.Add refl immediate_fit word)
operated_less tos.Sub one other h l new word m =
    let is : alone ops.Sec ∷ by_bytes ops.Sbc h l ≡ new = cc in subst (IsLess (stacked one other tos.Sub)) is (carry_less ops.Sec ops.Sbc one other h l tos.Sub refl immediate_fit word)
operated_less tos.And one other h l new word m = let is : by_bytes ops.And h l ≡ new = cc in subst (IsLess (stacked one other tos.And)) is (bytes_less ops.And one other h l tos.And immediate_fit word)
operated_less tos.Or one other h l new word m = let is : by_bytes ops.Ora h l ≡ new = cc in subst (IsLess (stacked one other tos.Or)) is (bytes_less ops.Ora one other h l tos.Or immediate_fit word)
operated_less tos.Xor one other h l new word m = let is : by_bytes ops.Eor h l ≡ new = cc in subst (IsLess (stacked one other tos.Xor)) is (bytes_less ops.Eor one other h l tos.Xor immediate_fit word)
operated_less _ one other h l new word m = absurd cc

word_less : (op : TosOp) (one other : Line) (new : List Line) → operated_by op (word_loaded one other) ≡ Some new → IsLess (stacked one other op) new
word_less op (Do ops.Ldx Immediate h) (Do ops.Lda Immediate l) new m = operated_less op (Do ops.Ldx Immediate h) (Do ops.Lda Immediate l) h l new (high_first h l) m
word_less op (Do ops.Lda Immediate l) (Do ops.Ldx Immediate h) new m = operated_less op (Do ops.Lda Immediate l) (Do ops.Ldx Immediate h) h l new (low_first h l) m
word_less op _ _ new m = absurd cc

pub unstacked_less : (line one other last : Line) (new : List Line) → unstacked line one other last ≡ Some new → IsLess (line ∷ one ∷ other ∷ last ∷ []) new
unstacked_less (Call (callees.Routine routines.PushAx)) one other (Call (callees.Routine (routines.Tos op Ax))) new m = word_less op one other new m
unstacked_less _ one other _ new m = absurd cc
