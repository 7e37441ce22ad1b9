-- The words of the values that these operators take and give.
use Rattle.std.proofs.Common.{◌≡◌, ℕ, ◌+◌, ◌*◌, ◌/◌, ◌%◌, ◌<◌, ℤ, pos, negsuc, Option, Some, None, refl, sym, ap, ◌∙◌, subst, arith}
use Rattle.std.specs.Prelude.{Ok}
use Rattle.c65_base.specs.declared.operators.BinaryOp.{BinaryOp}
use Rattle.c65_base.specs.declared.operators.BinaryOp.TheVariants as ops
use Rattle.c65_ints.specs.declared.types.IntType.{IntType}
use Rattle.c65_ints.specs.declared.types.IntType.TheVariants.{Int}
use Rattle.c65_ints.specs.Ranges.{residue}
use Rattle.c65_meaning.specs.Store.{Store, Value, Whole, Null, Place, Opaque, Cells, NoValue, Shape, Number, Pointer}
use Rattle.c65_meaning.specs.Fits.{Fits}
use Rattle.c65_meaning.specs.Operators.{binary}
use Rattle.c65_meaning.proofs.Fitting.{operators_fit}
use Rattle.c65_meaning.specs.State.{Scene}
use Rattle.c65_code.specs.declared.routine.Width.{Width}
use Rattle.c65_code.specs.declared.routine.Width.TheVariants.{Ax, Eax}
use Rattle.c65_code.specs.LineState.{State, ax_of, IsBytes}
use Rattle.c65_code.specs.Numbers.{words_of}
use Rattle.c65_code.specs.Rows.{primary_of}
use Rattle.c65_genwide.specs.Wide.{width_of}
use Rattle.c65_gendirect.specs.declared.bytes.OperandByte.{OperandByte}
use Rattle.c65_gendirect.specs.declared.direct.Direct.{Direct}
use Rattle.c65_gendirect.specs.Bytes.{byte_of as operand_of}
use Rattle.c65_genexpr.specs.declared.operands.Operands.{Operands}
use Rattle.c65_genexpr.specs.Operating.{pair_of, word_in}
use Rattle.c65_agree_store.specs.Stands.{Placing, Grows, ValueIs}
use Rattle.c65_agree_state.specs.World.{World}
use Rattle.c65_agree_state.specs.Exprs.{Valued, MayFit, ResultIs, width_in}
use Rattle.c65_agree_direct.specs.Operands.{byte_in, register_bytes, IsOfLive, HasBytes}
use Rattle.c65_agree_put.proofs.Fits.{may_fit}
use Rattle.c65_agree_operate_bytes.specs.Laws.{IsSum}
use Rattle.c65_agree_operate_bytes.proofs.Rights.{HasPair}
use Rattle.c65_agree_pointers.specs.Sums.{Summing, pointer_first, pointer_last, pointers}
use Rattle.c65_agree_pointers.proofs.Moved.{IsSummed, pointer_summed, number_summed}
use Rattle.c65_agree_store.proofs.Moved.{IsMoved}
use Rattle.c65_agree_pointers.proofs.Apart.{AreApart, are_apart, same_block}
use Rattle.c65_agree_pointers.proofs.Walks.{GivesFit}

-- ---- in AX

-- that of a pointer
pub pointer_word : (size : ℕ) (w : Placing) (v : Value) (u : State) → MayFit Valued (Pointer size) v → ResultIs Valued w Ax v u → ValueIs w 65536 v (ax_of u)
pointer_word size w Null u fit is = is
pointer_word size w (Place b o) u fit is = is
pointer_word size w Opaque u fit is = is
pointer_word size w NoValue u fit is = is
pointer_word size w (Whole z) u fit is = absurd fit
pointer_word size w (Cells xs) u fit is = absurd fit

-- and back, where it may be used
pub pointer_result : (size : ℕ) (w : Placing) (v : Value) (u : State) → MayFit Valued (Pointer size) v → ValueIs w 65536 v (ax_of u) → ResultIs Valued w Ax v u
pointer_result size w Null u fit is = is
pointer_result size w (Place b o) u fit is = is
pointer_result size w Opaque u fit is = is
pointer_result size w NoValue u fit is = is
pointer_result size w (Whole z) u fit is = absurd fit
pointer_result size w (Cells xs) u fit is = absurd fit

pub low_residue : (z : ℤ) → residue 4294967296 z % 65536 ≡ residue 65536 z
low_residue (pos n) = omega arith
low_residue (negsuc n) = omega arith

-- that of a number of any type, modulo 2 to the 16
pub number_word : (t : IntType) (w : Placing) (z : ℤ) (u : State) → IsBytes u → ResultIs Valued w (width_in (Number t)) (Whole z) u → ax_of u ≡ residue 65536 z
number_word t w z u bytes is = by (width_of t) is
  where
    by : (width : Width) → primary_of width u ≡ residue (words_of width) z → ax_of u ≡ residue 65536 z
    by Ax e = e
    by Eax e = let low : residue 4294967296 z % 65536 ≡ residue 65536 z = low_residue z in omega (arith, e, low, bytes.a, bytes.x, bytes.zp 2, bytes.zp 3)

-- ---- read where they lie

record ArePair (x y : Option OperandByte) (low high : OperandByte) : Type 0 where
  first : x ≡ Some low
  second : y ≡ Some high

pair_is : (x y : Option OperandByte) (low high : OperandByte) → pair_of x y ≡ Some (low, high) → ArePair x y low high
pair_is (Some l) (Some h) low high e = let same : (l, h) ≡ (low, high) = cc in record { first = ap (λ (p : OperandByte × OperandByte). Some p.0) same; second = ap (λ (p : OperandByte × OperandByte). Some p.1) same }
pair_is (Some l) None low high e = absurd (cc)
pair_is None y low high e = absurd (cc)

two_bytes : (width : Width) → 1 < register_bytes width
two_bytes Ax = omega arith
two_bytes Eax = omega arith

-- the two low bytes of a word
read_pair : (g : World) (s : Store) (w : Placing) (u : State) (width : Width) (d : Direct) (low high : OperandByte) (v : Value) → word_in d ≡ Some (low, high) → (bytes : HasBytes g s w u width d v) → HasPair g u low high (bytes.word % 65536)
read_pair g s w u width d low high v pair bytes =
    let two = pair_is (operand_of d 0) (operand_of d 1) low high pair in
    let low_is = bytes.bytes 0 low (omega (arith, two_bytes width)) two.first in
    let high_is = bytes.bytes 1 high (two_bytes width) two.second in
    let low_byte : byte_in g u low ≡ bytes.word % 256 = low_is.1 in
    let high_byte : byte_in g u high ≡ bytes.word / 256 % 256 = high_is.1 in
    record { may = low_is.0; may2 = high_is.0; small = omega (arith, low_byte); small2 = omega (arith, high_byte); word = omega (arith, low_byte, high_byte) }

-- of a number
pub number_pair : (g : World) (s : Store) (w : Placing) (u : State) (t : IntType) (d : Direct) (low high : OperandByte) (z : ℤ) → word_in d ≡ Some (low, high) → HasBytes g s w u (width_in (Number t)) d (Whole z) → HasPair g u low high (residue 65536 z)
number_pair g s w u t d low high z pair bytes = subst (HasPair g u low high) (by (width_of t) bytes.is) (read_pair g s w u (width_in (Number t)) d low high (Whole z) pair bytes)
  where
    by : (width : Width) → bytes.word ≡ residue (words_of width) z → bytes.word % 65536 ≡ residue 65536 z
    by Ax e = ap (λ n. n % 65536) e ∙ twice z
      where
        twice : (z : ℤ) → residue 65536 z % 65536 ≡ residue 65536 z
        twice (pos n) = omega arith
        twice (negsuc n) = omega arith
    by Eax e = ap (λ n. n % 65536) e ∙ low_residue z

-- of a pointer that may be used
pub record IsRead (g : World) (w : Placing) (u : State) (v : Value) (low high : OperandByte) : Type 0 where
  pub word : ℕ
  pub below : word < 65536
  pub pair : HasPair g u low high word
  pub is : ValueIs w 65536 v word

pub pointer_pair : (g : World) (s : Store) (w : Placing) (u : State) (d : Direct) (low high : OperandByte) (v : Value) → word_in d ≡ Some (low, high) → IsOfLive s v → HasBytes g s w u Ax d v → IsRead g w u v low high
pointer_pair g s w u d low high v pair live bytes =
    let few : bytes.word < 65536 = bytes.fits live in
    let same : bytes.word % 65536 ≡ bytes.word = omega (arith, few) in
    record { word = bytes.word; below = few; pair = subst (HasPair g u low high) same (read_pair g s w u Ax d low high v pair bytes); is = bytes.is }

-- a place has one address
pub same_word : (w : Placing) (v : Value) (b o n k : ℕ) → v ≡ Place b o → ValueIs w 65536 v n → ValueIs w 65536 v k → n ≡ k
same_word w v b o n k e is is2 =
    let one : ValueIs w 65536 (Place b o) n = subst (λ x. ValueIs w 65536 x n) e is in
    let two : ValueIs w 65536 (Place b o) k = subst (λ x. ValueIs w 65536 x k) e is2 in
    let same : one.0 ≡ two.0 = same_block w b one.0 two.0 one.1 two.1 in
    one.2 ∙ ap (λ at. at + o) same ∙ sym two.2

-- ---- what is given

-- an operator gives what fits its shape
pub sums_fit : (op : BinaryOp) (f h r : Shape) (operands : Operands) → Summing op f h r operands → GivesFit op f h r
sums_fit op f h r operands (pointer_first size t o) c va vb x fit e =
    let s = pointer_summed c.store op size t va vb x o e in
    subst (MayFit Valued (Pointer size)) (sym s.moved.result) tt
sums_fit op f h r operands (pointer_last size t) c va vb x fit e =
    let s = number_summed c.store size t va vb x e in
    subst (MayFit Valued (Pointer size)) (sym s.moved.result) tt
sums_fit op f h r operands (pointers size other) c va vb x fit e =
    let s = are_apart c.store size other va vb x e in
    let range : Fits (Number Int) x = operators_fit c.store ops.Sub (Pointer size) (Pointer other) va vb x (subst (Fits (Pointer size)) (sym s.left) tt) e in
    may_fit (Number Int) x tt range
