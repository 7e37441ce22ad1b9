-- The words and long words that operands have which are read where they lie, and ways through the lines that compare the primary register
-- with them.
use Rattle.std.proofs.Common.{◌≡◌, ℕ, ◌+◌, ◌*◌, ◌/◌, ◌%◌, ◌<◌, ℤ, Bool, Option, Some, None, refl, ap, ◌∙◌, subst, arith}
use Rattle.c65_ints.specs.declared.types.IntType.{IntType}
use Rattle.c65_meaning.specs.Store.{Whole}
use Rattle.c65_meaning.specs.State.{Scene}
use Rattle.c65_code.specs.declared.routine.Width.{Width}
use Rattle.c65_code.specs.declared.routine.Width.TheVariants.{Ax, Eax}
use Rattle.c65_code.specs.LineState.{State}
use Rattle.c65_code.specs.Numbers.{words_of}
use Rattle.c65_code.specs.Placement.{IsPlacement}
use Rattle.c65_code.specs.Rows.{primary_of}
use Rattle.c65_genwide.specs.Wide.{width_of}
use Rattle.c65_gendirect.specs.declared.bytes.OperandByte.{OperandByte}
use Rattle.c65_gendirect.specs.declared.direct.Direct.{Direct}
use Rattle.c65_gendirect.specs.declared.relation.Relation.{Relation}
use Rattle.c65_gendirect.specs.declared.compare.Sides.{Sides}
use Rattle.c65_gendirect.specs.declared.compare.Sides.TheVariants.{Word, Long}
use Rattle.c65_gendirect.specs.Bytes.{byte_of as operand_of}
use Rattle.c65_gendirect.specs.Compare.{compare_code}
use Rattle.c65_genexpr.specs.Direct.{both_bytes, all_bytes, sides_of}
use Rattle.c65_agree_store.specs.Stands.{Placing, Banks}
use Rattle.c65_agree_numbers.specs.Words.{word_of}
use Rattle.c65_agree_numbers.proofs.Residues.{word_below}
use Rattle.c65_agree_state.specs.World.{World, Active, lines_of, IsPlaced}
use Rattle.c65_agree_state.specs.Exprs.{Ready}
use Rattle.c65_agree_load.proofs.Kept.{is_on}
use Rattle.c65_agree_direct.specs.Operands.{byte_in, MayRead, register_bytes, HasBytes}
use Rattle.c65_agree_compare.proofs.Ways.{LeadsBy}
use Rattle.c65_agree_compare.proofs.Equal.{OnlyRegs}
use Rattle.c65_agree_compare.proofs.Directs.{HasPair, has_pair}
use Rattle.c65_agree_order.proofs.Tells.{tells}
use Rattle.c65_agree_order.proofs.Orderings.{MayReadLong}
use Rattle.c65_agree_order.proofs.Leading.{word_leads, long_leads}

abbrev pub IsOfWidth : Width → Sides → Type 0
IsOfWidth Ax (Word low high) = Unit {0}
IsOfWidth Eax (Long first second third fourth) = Unit {0}
IsOfWidth width sides = ⊥

-- the number whose bytes they are
abbrev pub number_at : World → State → Sides → ℕ
number_at g u (Word low high) = byte_in g u low + 256 * byte_in g u high
number_at g u (Long first second third fourth) = byte_in g u first + 256 * byte_in g u second + 65536 * byte_in g u third + 16777216 * byte_in g u fourth

abbrev pub MayReadSides : World → State → Sides → Type 0
MayReadSides g u (Word low high) = MayRead g u low × MayRead g u high × (byte_in g u low < 256) × (byte_in g u high < 256)
MayReadSides g u (Long first second third fourth) = MayReadLong g u first second third fourth

-- such a number is read
pub record IsReadAs (g : World) (u : State) (sides : Sides) (n : ℕ) : Type 0 where
  pub may : MayReadSides g u sides
  pub is : number_at g u sides ≡ n

pub pair_is_read : (g : World) (u : State) (low high : OperandByte) (n : ℕ) → HasPair g u low high n → IsReadAs g u (Word low high) n
pair_is_read g u low high n h = record { may = (h.may, h.may2, h.small, h.small2); is = h.word }

-- ---- the sides of an operand

no_long : (x y : Option OperandByte) (a b c d : OperandByte) → both_bytes x y ≡ Some (Long a b c d) → ⊥
no_long (Some low) (Some high) a b c d e = let same : Word low high ≡ Long a b c d = cc in absurd (cc)
no_long (Some low) None a b c d e = absurd (cc)
no_long None y a b c d e = absurd (cc)

no_word : (x y z w : Option OperandByte) (low high : OperandByte) → all_bytes x y z w ≡ Some (Word low high) → ⊥
no_word (Some a) (Some b) (Some c) (Some d) low high e = let same : Long a b c d ≡ Word low high = cc in absurd (cc)
no_word None y z w low high e = absurd (cc)
no_word (Some a) None z w low high e = absurd (cc)
no_word (Some a) (Some b) None w low high e = absurd (cc)
no_word (Some a) (Some b) (Some c) None low high e = absurd (cc)

pub of_width : (width : Width) (d : Direct) (sides : Sides) → sides_of width d ≡ Some sides → IsOfWidth width sides
of_width Ax d (Word low high) e = tt
of_width Ax d (Long first second third fourth) e = no_long (operand_of d 0) (operand_of d 1) first second third fourth e
of_width Eax d (Word low high) e = no_word (operand_of d 0) (operand_of d 1) (operand_of d 2) (operand_of d 3) low high e
of_width Eax d (Long first second third fourth) e = tt

record AreFour (x y z w : Option OperandByte) (first second third fourth : OperandByte) : Type 0 where
  one : x ≡ Some first
  two : y ≡ Some second
  three : z ≡ Some third
  four : w ≡ Some fourth

four_are : (x y z w : Option OperandByte) (first second third fourth : OperandByte) → all_bytes x y z w ≡ Some (Long first second third fourth) → AreFour x y z w first second third fourth
four_are (Some a) (Some b) (Some c) (Some d) first second third fourth e =
    let same : Long a b c d ≡ Long first second third fourth = cc in
    record { one = cc; two = cc; three = cc; four = cc }
four_are None y z w first second third fourth e = absurd (cc)
four_are (Some a) None z w first second third fourth e = absurd (cc)
four_are (Some a) (Some b) None w first second third fourth e = absurd (cc)
four_are (Some a) (Some b) (Some c) None first second third fourth e = absurd (cc)

module _ (g : World) (c : Scene) (w : Placing) (u : State) (t : IntType) (d : Direct) (q : ℤ) (bytes : HasBytes g c.store w u (width_of t) d (Whole q)) where
  has_four : (first second third fourth : OperandByte) → sides_of Eax d ≡ Some (Long first second third fourth) → width_of t ≡ Eax → IsReadAs g u (Long first second third fourth) (word_of t q)
  has_four first second third fourth four wide =
      let all = four_are (operand_of d 0) (operand_of d 1) (operand_of d 2) (operand_of d 3) first second third fourth four in
      let count : register_bytes (width_of t) ≡ 4 = ap register_bytes wide in
      let is0 = bytes.bytes 0 first (omega (arith, count)) all.one in
      let is1 = bytes.bytes 1 second (omega (arith, count)) all.two in
      let is2 = bytes.bytes 2 third (omega (arith, count)) all.three in
      let is3 = bytes.bytes 3 fourth (omega (arith, count)) all.four in
      let few : word_of t q < 4294967296 = subst (λ width. word_of t q < words_of width) wide (word_below (width_of t) q) in
      let same : bytes.word ≡ word_of t q = bytes.is in
      let byte0 : byte_in g u first ≡ bytes.word % 256 = is0.1 in
      let byte1 : byte_in g u second ≡ bytes.word / 256 % 256 = is1.1 in
      let byte2 : byte_in g u third ≡ bytes.word / 256 / 256 % 256 = is2.1 in
      let byte3 : byte_in g u fourth ≡ bytes.word / 256 / 256 / 256 % 256 = is3.1 in
      record {
        may = record { may = is0.0; may2 = is1.0; may3 = is2.0; may4 = is3.0; small = omega (arith, byte0); small2 = omega (arith, byte1); small3 = omega (arith, byte2); small4 = omega (arith, byte3) };
        is = omega (arith, few, same, byte0, byte1, byte2, byte3);
      }

  by_width : (width : Width) (sides : Sides) → width_of t ≡ width → sides_of width d ≡ Some sides → IsReadAs g u sides (word_of t q)
  by_width Ax (Word low high) e pair = pair_is_read g u low high (word_of t q) (has_pair g c w u t d low high q pair e bytes)
  by_width Ax (Long first second third fourth) e pair = absurd (no_long (operand_of d 0) (operand_of d 1) first second third fourth pair)
  by_width Eax (Word low high) e four = absurd (no_word (operand_of d 0) (operand_of d 1) (operand_of d 2) (operand_of d 3) low high four)
  by_width Eax (Long first second third fourth) e four = has_four first second third fourth four e

  pub sides_are_read : (sides : Sides) → sides_of (width_of t) d ≡ Some sides → IsReadAs g u sides (word_of t q)
  sides_are_read sides is = by_width (width_of t) sides refl is

-- ---- the lines

module _ (g : World) (a : Active) (own to pushed needs : ℕ) (placed : IsPlacement g.code g.place) (labels : IsPlaced (lines_of g a)) where
  -- the primary register has one number, and the other one is read
  pub whole_leads : (r : Relation) (sign : Bool) (width : Width) (sides : Sides) (c : Scene) (w : Placing) (b : Banks) (u : State) (m n : ℕ) (y : Bool) → Ready g a pushed needs c w b u → IsOfWidth width sides → primary_of width u ≡ m → IsReadAs g u sides n → tells r sign width m n ≡ y → LeadsBy g a (compare_code r sign sides own to) 60 to y u (OnlyRegs u)
  whole_leads r sign Ax (Word low high) c w b u m n y ready of_width is read e =
      word_leads g a u placed (is_on g a pushed needs c w b u placed ready) labels to own low high read.may.0 read.may.1 read.may.2 read.may.3 r sign y
      (ap (λ i. tells r sign Ax i (byte_in g u low + 256 * byte_in g u high)) is ∙ ap (tells r sign Ax m) read.is ∙ e)
  whole_leads r sign Eax (Long first second third fourth) c w b u m n y ready of_width is read e =
      long_leads g a u placed (is_on g a pushed needs c w b u placed ready) labels to own first second third fourth read.may r sign y
      (ap (λ i. tells r sign Eax i (number_at g u (Long first second third fourth))) is ∙ ap (tells r sign Eax m) read.is ∙ e)
  whole_leads r sign Ax (Long first second third fourth) c w b u m n y ready of_width is read e = absurd of_width
  whole_leads r sign Eax (Word low high) c w b u m n y ready of_width is read e = absurd of_width
