-- Operators on AX and an operand that is read where it lies.
use Rattle.std.proofs.Common.{◌≡◌, ℕ, ◌+◌, ◌*◌, ◌%◌, ◌/◌, ◌<◌, ◌++◌, ℤ, Option, Some, None, true, false, refl, sym, ap, ◌∙◌, subst, arith}
use Rattle.std.specs.Prelude.{Ok}
use Rattle.c65_base.specs.declared.operators.BinaryOp.{BinaryOp}
use Rattle.c65_base.specs.declared.operators.BinaryOp.TheVariants as ops
use Rattle.c65_ints.specs.declared.types.IntType.{IntType}
use Rattle.c65_ints.specs.Ranges.{is_signed_of, InRange}
use Rattle.c65_csem.specs.Places.{is_promoted}
use Rattle.c65_meaning.specs.Store.{Whole}
use Rattle.c65_meaning.specs.Operators.{calculated}
use Rattle.c65_meaning.specs.State.{Scene}
use Rattle.c65_code.specs.declared.routine.Width.{Width}
use Rattle.c65_code.specs.declared.routine.Width.TheVariants.{Ax, Eax}
use Rattle.c65_code.specs.LineState.{State, ax_of}
use Rattle.c65_code.specs.Numbers.{words_of, tos_result}
use Rattle.c65_code.specs.Placement.{IsPlacement}
use Rattle.c65_code.specs.Rows.{primary_of}
use Rattle.c65_genwide.specs.Wide.{width_of, tos_of, is_comparison}
use Rattle.c65_gendirect.specs.declared.bytes.OperandByte.{OperandByte}
use Rattle.c65_gendirect.specs.declared.direct.Direct.{Direct}
use Rattle.c65_gendirect.specs.Bytes.{byte_of as operand_of}
use Rattle.c65_gendirect.specs.Words.{word_code}
use Rattle.c65_genexpr.specs.Operating.{pair_of, word_in, takes_bytes, placed}
use Rattle.c65_agree_store.specs.Stands.{Placing, Banks}
use Rattle.c65_agree_numbers.specs.Words.{word_of}
use Rattle.c65_agree_numbers.proofs.Residues.{word_below}
use Rattle.c65_agree_state.specs.World.{World, Active, lines_of, IsPlaced}
use Rattle.c65_agree_state.specs.Exprs.{Ready}
use Rattle.c65_agree_frame.specs.Leads.{Leads}
use Rattle.c65_agree_frame.proofs.Leads.{leads_as}
use Rattle.c65_agree_load.proofs.Kept.{is_on}
use Rattle.c65_agree_direct.specs.Operands.{byte_in, MayRead, register_bytes, HasBytes}
use Rattle.c65_agree_operate.specs.Manners.{Manner}
use Rattle.c65_agree_operate_bytes.specs.Laws.{DirectRightsDo}
use Rattle.c65_agree_operate.proofs.Manners.{left_held}
use Rattle.c65_agree_operate.proofs.Given.{words_given}
use Rattle.c65_agree_operate.proofs.Exact.{registers_kept, registers_held, one_more}
use Rattle.c65_agree_operate_bytes.proofs.Words.{word_on, word_is, begins, byte_on, by_bytes}
use Rattle.c65_agree_operate_bytes.proofs.Direct.{Worked}
use Rattle.c65_agree_operate_bytes.proofs.Short.{word_leads}
use Rattle.c65_agree_operate.proofs.Lefts.{HasWord, left_does}

-- an operator that takes bytes is no comparison
pub no_comparison : (op : BinaryOp) → takes_bytes op ≡ true → is_comparison op ≡ false
no_comparison ops.Add h = refl
no_comparison ops.Sub h = refl
no_comparison ops.BitAnd h = refl
no_comparison ops.BitXor h = refl
no_comparison ops.BitOr h = refl
no_comparison ops.Mul h = absurd (cc)
no_comparison ops.Div h = absurd (cc)
no_comparison ops.Rem h = absurd (cc)
no_comparison ops.Shl h = absurd (cc)
no_comparison ops.Shr h = absurd (cc)
no_comparison ops.Lt h = absurd (cc)
no_comparison ops.Gt h = absurd (cc)
no_comparison ops.Le h = absurd (cc)
no_comparison ops.Ge h = absurd (cc)
no_comparison ops.Eq h = absurd (cc)
no_comparison ops.Ne h = absurd (cc)

record ArePair (x y : Option OperandByte) (low high : OperandByte) : Type 0 where
  first : x ≡ Some low
  second : y ≡ Some high

pair_is : (x y : Option OperandByte) (low high : OperandByte) → pair_of x y ≡ Some (low, high) → ArePair x y low high
pair_is (Some l) (Some h) low high e = let same : (l, h) ≡ (low, high) = cc in record { first = ap (λ (p : OperandByte × OperandByte). Some p.0) same; second = ap (λ (p : OperandByte × OperandByte). Some p.1) same }
pair_is (Some l) None low high e = absurd (cc)
pair_is None y low high e = absurd (cc)

two_bytes : (width : Width) → 1 < register_bytes width
two_bytes Ax = omega arith
two_bytes Eax = omega arith

-- AX by an operator and a word, where that has its two bytes
module _ (g : World) (a : Active) (m : Manner) (op : BinaryOp) (t : IntType) (label pushed needs n : ℕ) (low high : OperandByte) (placed_code : IsPlacement g.code g.place) (own : IsPlaced (lines_of g a)) (takes : takes_bytes op ≡ true) (narrow : width_of t ≡ Ax)
    (c : Scene) (w : Placing) (b : Banks) (u : State) (ready : Ready g a pushed needs c w b u) (may : MayRead g u low) (may2 : MayRead g u high) (low_byte : byte_in g u low < 256) (high_byte : byte_in g u high < 256)
    (gives : word_on op (ax_of u) (byte_in g u low + 256 * byte_in g u high) ≡ n) where
  has_word : (x : State) → Worked op (byte_in g u low) (byte_in g u high) u x → HasWord g a m t c w b u n x
  has_word x h =
      let sum : ax_of x ≡ word_on op (ax_of u) (byte_in g u low + 256 * byte_in g u high) = ap (λ n. n + 256 * x.regs.x) h.a ∙ ap (λ n. byte_on op u.regs.a (byte_in g u low) (begins op u.regs.c) + 256 * n) h.x ∙ by_bytes u.regs.a u.regs.x (byte_in g u low) (byte_in g u high) ready.joins.bytes.a ready.joins.bytes.x low_byte high_byte op u.regs.c takes in
      record {
        kept = registers_kept g a pushed needs c w b u x placed_code ready h.only h.bytes;
        word = subst (λ width. primary_of width x ≡ n) (sym narrow) (sum ∙ gives);
        left = left_held m c u x (registers_held u x h.only);
      }

  pub bytes_lead : Leads g a (word_code op low high label ++ placed op label) 2560 u (HasWord g a m t c w b u n)
  bytes_lead =
      leads_as g a (word_code op low high label ++ placed op label) 9 2560 u (Worked op (byte_in g u low) (byte_in g u high) u) (HasWord g a m t c w b u n) (omega arith) (λ x h. has_word x h)
      (word_leads g a op u placed_code (is_on g a pushed needs c w b u placed_code ready) (one_more g a pushed needs c w b u ready) own label low high may may2)

-- the operator on two words of AX gives the word of its number
pub own_word : (op : BinaryOp) (t : IntType) (p q z : ℤ) → takes_bytes op ≡ true → is_promoted t ≡ true → width_of t ≡ Ax → InRange t p → InRange t q → calculated op t p q ≡ Ok (Whole z) → word_on op (word_of t p) (word_of t q) ≡ word_of t z
own_word op t p q z takes promoted narrow left right e =
    let given : tos_result (tos_of op (is_signed_of t)) Ax (word_of t p) (word_of t q) ≡ Some (word_of t z) = subst (λ width. tos_result (tos_of op (is_signed_of t)) width (word_of t p) (word_of t q) ≡ Some (word_of t z)) narrow (words_given op t p q z (no_comparison op takes) promoted left right e) in
    let same : Some (word_on op (word_of t p) (word_of t q)) ≡ Some (word_of t z) = sym (word_is op (is_signed_of t) (word_of t p) (word_of t q) takes) ∙ given in
    cc

-- the two bytes of an operand that is read
pub record HasPair (g : World) (u : State) (low high : OperandByte) (n : ℕ) : Type 0 where
  pub may : MayRead g u low
  pub may2 : MayRead g u high
  pub small : byte_in g u low < 256
  pub small2 : byte_in g u high < 256
  pub word : byte_in g u low + 256 * byte_in g u high ≡ n

pub has_pair : (g : World) (c : Scene) (w : Placing) (u : State) (t : IntType) (d : Direct) (low high : OperandByte) (q : ℤ) → word_in d ≡ Some (low, high) → width_of t ≡ Ax → HasBytes g c.store w u (width_of t) d (Whole q) → HasPair g u low high (word_of t q)
has_pair g c w u t d low high q pair narrow bytes =
    let two = pair_is (operand_of d 0) (operand_of d 1) low high pair in
    let low_is = bytes.bytes 0 low (omega (arith, two_bytes (width_of t))) two.first in
    let high_is = bytes.bytes 1 high (two_bytes (width_of t)) two.second in
    let few : word_of t q < 65536 = subst (λ width. word_of t q < words_of width) narrow (word_below (width_of t) q) in
    let same : bytes.word ≡ word_of t q = bytes.is in
    let low_byte : byte_in g u low ≡ bytes.word % 256 = low_is.1 in
    let high_byte : byte_in g u high ≡ bytes.word / 256 % 256 = high_is.1 in
    record { may = low_is.0; may2 = high_is.0; small = omega (arith, low_byte); small2 = omega (arith, high_byte); word = omega (arith, few, same, low_byte, high_byte) }

pub direct_rights_do : DirectRightsDo
direct_rights_do g a m op t label needs more_needs pushed d low high first second left right placed_code own few takes promoted narrow pair before reads =
    left_does g a m op t t needs more_needs pushed first second left (word_code op low high label ++ placed op label) few (no_comparison op takes) (λ c w u v. HasBytes g c.store w u (width_of t) d v) reads (λ c w b u p q z ready is bytes fits1 fits2 e.
    let h = has_pair g c w u t d low high q pair narrow bytes in
    let ax : ax_of u ≡ word_of t p = subst (λ width. primary_of width u ≡ word_of t p) narrow is in
    bytes_lead g a m op t label pushed more_needs (word_of t z) low high placed_code own takes narrow c w b u ready h.may h.may2 h.small h.small2 (ap (λ n. word_on op n (byte_in g u low + 256 * byte_in g u high)) ax ∙ ap (word_on op (word_of t p)) h.word ∙ own_word op t p q z takes promoted narrow fits1 fits2 e)) before
