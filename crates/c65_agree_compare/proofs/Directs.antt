-- Comparisons with a right side that is read where it lies.
use Rattle.std.proofs.Common.{◌≡◌, ℕ, ◌+◌, ◌*◌, ◌/◌, ◌%◌, ◌<◌, ◌≤◌, max, List, ◌∷◌, ◌++◌, length, ℤ, Bool, true, false, Option, Some, None, refl, sym, ap, ◌∙◌, subst, arith, length-append}
use Rattle.std.specs.Prelude.{◌==◌, not, nat_lt, nat_le, Ok}
use Rattle.std.specs.Bool.{beq}
use Rattle.std.proofs.lemmas.Bool.Decides.{nat_tests}
use Rattle.c65_base.specs.declared.operators.BinaryOp.{BinaryOp}
use Rattle.c65_base.specs.declared.operators.BinaryOp.TheVariants as ops
use Rattle.c65_ints.specs.declared.types.IntType.{IntType}
use Rattle.c65_ints.specs.Ranges.{is_signed_of, InRange}
use Rattle.c65_meaning.specs.Integers.{truth}
use Rattle.c65_meaning.specs.Store.{Value, Whole, Number}
use Rattle.c65_meaning.specs.Fits.{Fits}
use Rattle.c65_meaning.specs.Items.{Item, Apply2}
use Rattle.c65_meaning.specs.Operators.{calculated}
use Rattle.c65_meaning.specs.State.{Scene, Running}
use Rattle.c65_code.specs.declared.line.Line.{Line}
use Rattle.c65_code.specs.declared.routine.Width.{Width}
use Rattle.c65_code.specs.declared.routine.Width.TheVariants.{Ax, Eax}
use Rattle.c65_code.specs.LineState.{State, ax_of}
use Rattle.c65_code.specs.Placement.{IsPlacement}
use Rattle.c65_code.specs.Numbers.{words_of, tos_result}
use Rattle.c65_code.specs.Numbers as numbers
use Rattle.c65_code.specs.Rows.{primary_of}
use Rattle.c65_code.specs.Comes.{Seen}
use Rattle.c65_genwide.specs.Wide.{width_of, is_comparison, tos_of}
use Rattle.c65_gendirect.specs.declared.bytes.OperandByte.{OperandByte}
use Rattle.c65_gendirect.specs.declared.direct.Direct.{Direct}
use Rattle.c65_gendirect.specs.declared.relation.Relation.{Relation}
use Rattle.c65_gendirect.specs.declared.relation.Relation.TheVariants.{Less, NotLess, Greater, NotGreater, Equal, Unequal}
use Rattle.c65_gendirect.specs.declared.compare.Sides.TheVariants.{Word}
use Rattle.c65_gendirect.specs.Bytes.{byte_of as operand_of}
use Rattle.c65_gendirect.specs.Compare.{relation_of, negated, difference_code, order_code, compare_code}
use Rattle.c65_genexpr.specs.Direct.{both_bytes, sides_of}
use Rattle.c65_genexpr.specs.Comparing.{relation_by}
use Rattle.c65_agree_store.specs.Stands.{Placing, Banks}
use Rattle.c65_agree_numbers.specs.Words.{word_of}
use Rattle.c65_agree_numbers.proofs.Residues.{word_below}
use Rattle.c65_agree_state.specs.World.{World, Active, lines_of, place_in, IsPlaced, HasAt, HasTurns}
use Rattle.c65_agree_state.specs.Follows.{Follows}
use Rattle.c65_agree_state.specs.Exprs.{Ready, Valued, ResultIs, Done}
use Rattle.c65_agree_state.proofs.Followed.{follows_weaken}
use Rattle.c65_agree_state.proofs.Nodes.{has_front, has_back, ready_stays}
use Rattle.c65_agree_load.proofs.Kept.{is_on}
use Rattle.c65_agree_put.proofs.Fits.{may_fit}
use Rattle.c65_agree_direct.specs.Operands.{byte_in, MayRead, register_bytes, HasBytes}
use Rattle.c65_agree_direct.specs.Laws.{IsReadInPlace}
use Rattle.c65_agree_operate.specs.Manners.{Manner, IsLeft, DoesIn}
use Rattle.c65_agree_operate.specs.Laws.{on_numbers}
use Rattle.c65_agree_compare.specs.Branches.{RestOfSettled, SettlesIn}
use Rattle.c65_agree_compare.specs.Laws.{IsEqual, IsOrder, EqualWordsSettle, OrderedWordsSettle}
use Rattle.c65_agree_compare.proofs.Ways.{LeadsBy}
use Rattle.c65_agree_compare.proofs.Stacked.{word_in, word_given}
use Rattle.c65_agree_compare.proofs.Last.{settled_follows}
use Rattle.c65_agree_compare.proofs.Orders.{holds, order_leads}
use Rattle.c65_agree_compare.proofs.Equal.{OnlyRegs, equal_leads, other_leads}

-- ---- behind the left side

module _ (g : World) (a : Active) (m : Manner) (op : BinaryOp) (t : IntType) (s : Bool) (to needs more_needs pushed : ℕ) (first second : List Item → List Item) (left ls : List Line) (d : Direct) (placed : IsPlacement g.code g.place) (compares : is_comparison op ≡ true) (none : IsReadInPlace g a pushed (Number t) second d)
    (leads : (c : Scene) (w : Placing) (b : Banks) (u : State) (p q : ℤ) (y : Bool) → Ready g a pushed more_needs c w b u → primary_of (width_of t) u ≡ word_of t p → HasBytes g c.store w u (width_of t) d (Whole q) → InRange t p → InRange t q → calculated op t p q ≡ Ok (Whole (truth y)) → LeadsBy g a ls 60 to (beq y s) u (OnlyRegs u)) where
  module _ (n weight p : ℕ) (k : List Item) (vs : List Value) (c : Scene) (w : Placing) (b : Banks) (r : State) (rest : RestOfSettled g a m s to n weight (p + length (left ++ ls)) k vs c w b r) (has : HasAt (lines_of g a) (p + length left) ls)
      (c1 : Scene) (w1 : Placing) (b1 : Banks) (s1 : State) (va : Value) (done1 : Done g a Valued (Number t) c w b r va c1 w1 b1 s1) (left1 : IsLeft m c r c1 s1) (ready1 : Ready g a pushed more_needs c1 w1 b1 s1) (seen : Seen) (turned : HasTurns g c1.turns (place_in g a (p + length left)) seen)
      (vb : Value) (fit : Fits (Number t) vb) (bytes : HasBytes g c1.store w1 s1 (width_of t) d vb) where
    ends : p + length left + length ls ≡ p + length (left ++ ls)
    ends = omega (arith, length-append left ls)

    followed : (i : ℕ) → i ≤ n → Follows g i (weight + 2600 + m.over + 4000) (Running (Apply2 op (Number t) (Number t) ∷ k) (vb ∷ va ∷ vs) c1) (place_in g a (p + length left)) s1 seen
    followed i le =
        settled_follows g a m op t s to placed compares pushed more_needs n weight (p + length (left ++ ls)) (p + length left) ls ends k vs c w b r rest has c1 w1 b1 s1 ready1 done1.kept left1 va vb done1.fits (may_fit (Number t) vb tt fit)
        (λ x z y e f fits1 fits2 gives. leads c1 w1 b1 s1 x z y ready1 (subst (λ v. ResultIs Valued w1 (width_of t) v s1) e done1.result) (subst (HasBytes g c1.store w1 s1 (width_of t) d) f bytes) fits1 fits2 gives)
        seen turned (weight + 2600 + m.over + 4000) (omega arith) i le

  pub left_settles : DoesIn g a m Valued (Number t) first needs pushed left → SettlesIn g a m s to (on_numbers op t t first second) (max needs (1 + more_needs)) pushed (left ++ ls)
  left_settles before n weight p k vs c w b r seen has ready turns rest =
      let ready0 : Ready g a pushed needs c w b r = record { joins = ready.joins; sp = ready.sp; room = omega (arith, ready.room); none_pushed = ready.none_pushed } in
      before n weight p (second (Apply2 op (Number t) (Number t) ∷ k)) vs c w b r seen (has_front (lines_of g a) p left ls has) ready0 turns (λ j va c1 w1 b1 s1 seen1 lt done1 left1 turned1.
      let ready1 : Ready g a pushed more_needs c1 w1 b1 s1 = ready_stays g a pushed (max needs (1 + more_needs)) more_needs c c1 w w1 b b1 r s1 (omega arith) ready done1.kept in
      none more_needs j (weight + 2600 + m.over) (Apply2 op (Number t) (Number t) ∷ k) (va ∷ vs) c1 w1 b1 (place_in g a (p + length left)) s1 seen1 ready1 turned1 (λ i vb lt2 fit bytes.
      followed n weight p k vs c w b r rest (has_back (lines_of g a) p left ls has) c1 w1 b1 s1 va done1 left1 ready1 seen1 turned1 vb fit bytes i (omega (arith, lt, lt2))))

-- ---- the bytes of the right side

record ArePair (x y : Option OperandByte) (low high : OperandByte) : Type 0 where
  first : x ≡ Some low
  second : y ≡ Some high

pair_is : (x y : Option OperandByte) (low high : OperandByte) → both_bytes x y ≡ Some (Word low high) → ArePair x y low high
pair_is (Some l) (Some h) low high e =
    let same : Word l h ≡ Word low high = cc in
    record { first = cc; second = cc }
pair_is (Some l) None low high e = absurd (cc)
pair_is None y low high e = absurd (cc)

pub record HasPair (g : World) (u : State) (low high : OperandByte) (n : ℕ) : Type 0 where
  pub may : MayRead g u low
  pub may2 : MayRead g u high
  pub small : byte_in g u low < 256
  pub small2 : byte_in g u high < 256
  pub word : byte_in g u low + 256 * byte_in g u high ≡ n

two_bytes : (width : Width) → 1 < register_bytes width
two_bytes Ax = omega arith
two_bytes Eax = omega arith

pub has_pair : (g : World) (c : Scene) (w : Placing) (u : State) (t : IntType) (d : Direct) (low high : OperandByte) (q : ℤ) → sides_of Ax d ≡ Some (Word low high) → width_of t ≡ Ax → HasBytes g c.store w u (width_of t) d (Whole q) → HasPair g u low high (word_of t q)
has_pair g c w u t d low high q pair narrow bytes =
    let two = pair_is (operand_of d 0) (operand_of d 1) low high pair in
    let low_is = bytes.bytes 0 low (omega (arith, two_bytes (width_of t))) two.first in
    let high_is = bytes.bytes 1 high (two_bytes (width_of t)) two.second in
    let few : word_of t q < 65536 = subst (λ width. word_of t q < words_of width) narrow (word_below (width_of t) q) in
    let same : bytes.word ≡ word_of t q = bytes.is in
    let low_byte : byte_in g u low ≡ bytes.word % 256 = low_is.1 in
    let high_byte : byte_in g u high ≡ bytes.word / 256 % 256 = high_is.1 in
    record { may = low_is.0; may2 = high_is.0; small = omega (arith, low_byte); small2 = omega (arith, high_byte); word = omega (arith, few, same, low_byte, high_byte) }

-- ---- equality

abbrev equality : Bool → BinaryOp
equality true = ops.Eq
equality false = ops.Ne

abbrev relation : Bool → Relation
relation true = Equal
relation false = Unequal

abbrev outcome : Bool → Bool → Bool
outcome true y = y
outcome false y = not y

record IsEquality (op : BinaryOp) (r : Relation) : Type 0 where
  equal : Bool
  is : op ≡ equality equal
  relation_is : r ≡ relation equal

pub some_is : (x r : Relation) → Some x ≡ Some r → r ≡ x
some_is x r e = cc

no_order : (x r : Relation) → Some x ≡ Some r → (IsEqual x → ⊥) → IsEqual r → ⊥
no_order x r e f h = f (subst IsEqual (some_is x r e) h)

is_equality : (op : BinaryOp) (r : Relation) → relation_of op ≡ Some r → IsEqual r → IsEquality op r
is_equality ops.Eq r e h = record { equal = true; is = refl; relation_is = some_is Equal r e }
is_equality ops.Ne r e h = record { equal = false; is = refl; relation_is = some_is Unequal r e }
is_equality ops.Lt r e h = absurd (no_order Less r e (λ x. x) h)
is_equality ops.Ge r e h = absurd (no_order NotLess r e (λ x. x) h)
is_equality ops.Gt r e h = absurd (no_order Greater r e (λ x. x) h)
is_equality ops.Le r e h = absurd (no_order NotGreater r e (λ x. x) h)
is_equality ops.Mul r e h = absurd (cc)
is_equality ops.Div r e h = absurd (cc)
is_equality ops.Rem r e h = absurd (cc)
is_equality ops.Add r e h = absurd (cc)
is_equality ops.Sub r e h = absurd (cc)
is_equality ops.Shl r e h = absurd (cc)
is_equality ops.Shr r e h = absurd (cc)
is_equality ops.BitAnd r e h = absurd (cc)
is_equality ops.BitXor r e h = absurd (cc)
is_equality ops.BitOr r e h = absurd (cc)

compares_is : (equal : Bool) → is_comparison (equality equal) ≡ true
compares_is true = refl
compares_is false = refl

truth_is : (x y : Bool) → numbers.truth x ≡ word_in y → x ≡ y
truth_is true true e = refl
truth_is true false e = absurd (omega (arith, e))
truth_is false true e = absurd (omega (arith, e))
truth_is false false e = refl

not_is : (x y : Bool) → not x ≡ y → x ≡ not y
not_is true true e = sym e
not_is true false e = refl
not_is false true e = refl
not_is false false e = sym e

-- the words are equal where the numbers are
words_equal : (equal : Bool) (t : IntType) (p q : ℤ) (y : Bool) → InRange t p → InRange t q → calculated (equality equal) t p q ≡ Ok (Whole (truth y)) → (word_of t p == word_of t q) ≡ outcome equal y
words_equal true t p q y left right e =
    let given : Some (numbers.truth (word_of t p == word_of t q)) ≡ Some (word_in y) = word_given ops.Eq t p q (truth y) y refl left right e refl in
    let same : numbers.truth (word_of t p == word_of t q) ≡ word_in y = cc in
    truth_is (word_of t p == word_of t q) y same
words_equal false t p q y left right e =
    let given : Some (numbers.truth (not (word_of t p == word_of t q))) ≡ Some (word_in y) = word_given ops.Ne t p q (truth y) y refl left right e refl in
    let same : numbers.truth (not (word_of t p == word_of t q)) ≡ word_in y = cc in
    not_is (word_of t p == word_of t q) y (truth_is (not (word_of t p == word_of t q)) y same)

module _ (g : World) (a : Active) (t : IntType) (d : Direct) (low high : OperandByte) (is_signed : Bool) (to own pushed needs : ℕ) (placed : IsPlacement g.code g.place) (labels : IsPlaced (lines_of g a)) (narrow : width_of t ≡ Ax) (pair : sides_of Ax d ≡ Some (Word low high)) where
  equal_lead : (equal s : Bool) (c : Scene) (w : Placing) (b : Banks) (u : State) (p q : ℤ) (y : Bool) → Ready g a pushed needs c w b u → primary_of (width_of t) u ≡ word_of t p → HasBytes g c.store w u (width_of t) d (Whole q) → InRange t p → InRange t q → calculated (equality equal) t p q ≡ Ok (Whole (truth y))
      → LeadsBy g a (compare_code (relation_by s (relation equal)) is_signed (Word low high) own to) 60 to (beq y s) u (OnlyRegs u)
  equal_lead equal s c w b u p q y ready is bytes fits1 fits2 e =
      let h = has_pair g c w u t d low high q pair narrow bytes in
      let ax : ax_of u ≡ word_of t p = subst (λ width. primary_of width u ≡ word_of t p) narrow is in
      let same : (ax_of u == byte_in g u low + 256 * byte_in g u high) ≡ outcome equal y = ap (λ n. n == byte_in g u low + 256 * byte_in g u high) ax ∙ ap (λ n. word_of t p == n) h.word ∙ words_equal equal t p q y fits1 fits2 e in
      by equal s same h
    where
      more : (ls : List Line) (taken want : Bool) → taken ≡ want → LeadsBy g a ls 9 to taken u (OnlyRegs u) → LeadsBy g a ls 60 to want u (OnlyRegs u)
      more ls taken want f way n v pos turns m seen has turned k =
          follows_weaken g n (9 + v) (60 + v) m (place_in g a pos) u seen (omega arith)
          (subst (λ x. LeadsBy g a ls 9 to x u (OnlyRegs u)) f way n v pos turns m seen has turned k)

      self : (x : Bool) → x ≡ beq x true
      self true = refl
      self false = refl

      other : (x : Bool) → not x ≡ beq x false
      other true = refl
      other false = refl

      twice : (x : Bool) → not (not x) ≡ beq x true
      twice true = refl
      twice false = refl

      by : (f z : Bool) → (ax_of u == byte_in g u low + 256 * byte_in g u high) ≡ outcome f y → HasPair g u low high (word_of t q) → LeadsBy g a (compare_code (relation_by z (relation f)) is_signed (Word low high) own to) 60 to (beq y z) u (OnlyRegs u)
      by true true e2 h = more (compare_code Equal is_signed (Word low high) own to) y (beq y true) (self y) (equal_leads g a u placed (is_on g a pushed needs c w b u placed ready) labels to own low high h.may h.may2 h.small h.small2 is_signed y e2)
      by true false e2 h = more (compare_code Unequal is_signed (Word low high) own to) (not y) (beq y false) (other y) (other_leads g a u placed (is_on g a pushed needs c w b u placed ready) labels to own low high h.may h.may2 h.small h.small2 is_signed y e2)
      by false true e2 h = more (compare_code Unequal is_signed (Word low high) own to) (not (not y)) (beq y true) (twice y) (other_leads g a u placed (is_on g a pushed needs c w b u placed ready) labels to own low high h.may h.may2 h.small h.small2 is_signed (not y) e2)
      by false false e2 h = more (compare_code Equal is_signed (Word low high) own to) (not y) (beq y false) (other y) (equal_leads g a u placed (is_on g a pushed needs c w b u placed ready) labels to own low high h.may h.may2 h.small h.small2 is_signed (not y) e2)

pub equal_words_settle : EqualWordsSettle
equal_words_settle g a m op r t d low high is_signed s to own needs more_needs pushed first second left right placed labels by_op equal narrow pair before reads =
    let e : IsEquality op r = is_equality op r by_op equal in
    let settled : SettlesIn g a m s to (on_numbers (equality e.equal) t t first second) (max needs (1 + more_needs)) pushed (left ++ compare_code (relation_by s (relation e.equal)) is_signed (Word low high) own to) =
    left_settles g a m (equality e.equal) t s to needs more_needs pushed first second left (compare_code (relation_by s (relation e.equal)) is_signed (Word low high) own to) d placed (compares_is e.equal) reads
    (λ c w b u p q y ready is bytes fits1 fits2 h. equal_lead g a t d low high is_signed to own pushed more_needs placed labels narrow pair e.equal s c w b u p q y ready is bytes fits1 fits2 h) before in
    subst (λ o. SettlesIn g a m s to (on_numbers o t t first second) (max needs (1 + more_needs)) pushed (left ++ compare_code (relation_by s r) is_signed (Word low high) own to)) (sym e.is)
    (subst (λ x. SettlesIn g a m s to (on_numbers (equality e.equal) t t first second) (max needs (1 + more_needs)) pushed (left ++ compare_code (relation_by s x) is_signed (Word low high) own to)) (sym e.relation_is) settled)

-- ---- orders without sign

pub order_compares : (op : BinaryOp) (r : Relation) → relation_of op ≡ Some r → is_comparison op ≡ true
order_compares ops.Eq r e = refl
order_compares ops.Ne r e = refl
order_compares ops.Lt r e = refl
order_compares ops.Ge r e = refl
order_compares ops.Gt r e = refl
order_compares ops.Le r e = refl
order_compares ops.Mul r e = absurd (cc)
order_compares ops.Div r e = absurd (cc)
order_compares ops.Rem r e = absurd (cc)
order_compares ops.Add r e = absurd (cc)
order_compares ops.Sub r e = absurd (cc)
order_compares ops.Shl r e = absurd (cc)
order_compares ops.Shr r e = absurd (cc)
order_compares ops.BitAnd r e = absurd (cc)
order_compares ops.BitXor r e = absurd (cc)
order_compares ops.BitOr r e = absurd (cc)

pub some_truth : (x y : Bool) → Some (numbers.truth x) ≡ Some (word_in y) → x ≡ y
some_truth x y e = let same : numbers.truth x ≡ word_in y = cc in truth_is x y same

module _ (t : IntType) (p q : ℤ) (y : Bool) (plain : is_signed_of t ≡ false) (left : InRange t p) (right : InRange t q) where
  given : (op : BinaryOp) → is_comparison op ≡ true → calculated op t p q ≡ Ok (Whole (truth y)) → tos_result (tos_of op false) (width_of t) (word_of t p) (word_of t q) ≡ Some (word_in y)
  given op h e = subst (λ b. tos_result (tos_of op b) (width_of t) (word_of t p) (word_of t q) ≡ Some (word_in y)) plain (word_given op t p q (truth y) y h left right e refl)

  abbrev order : Relation → Bool
  order r = holds r (word_of t p) (word_of t q)

  words_ordered : (op : BinaryOp) (r : Relation) → relation_of op ≡ Some r → IsOrder r → calculated op t p q ≡ Ok (Whole (truth y)) → order r ≡ y
  words_ordered ops.Lt r e o h = ap order (some_is Less r e) ∙ some_truth (nat_lt (word_of t p) (word_of t q)) y (given ops.Lt refl h)
  words_ordered ops.Ge r e o h = ap order (some_is NotLess r e) ∙ some_truth (nat_le (word_of t q) (word_of t p)) y (given ops.Ge refl h)
  words_ordered ops.Gt r e o h = ap order (some_is Greater r e) ∙ some_truth (nat_lt (word_of t q) (word_of t p)) y (given ops.Gt refl h)
  words_ordered ops.Le r e o h = ap order (some_is NotGreater r e) ∙ some_truth (nat_le (word_of t p) (word_of t q)) y (given ops.Le refl h)
  words_ordered ops.Eq r e o h = absurd (subst IsOrder (some_is Equal r e) o)
  words_ordered ops.Ne r e o h = absurd (subst IsOrder (some_is Unequal r e) o)
  words_ordered ops.Mul r e o h = absurd (cc)
  words_ordered ops.Div r e o h = absurd (cc)
  words_ordered ops.Rem r e o h = absurd (cc)
  words_ordered ops.Add r e o h = absurd (cc)
  words_ordered ops.Sub r e o h = absurd (cc)
  words_ordered ops.Shl r e o h = absurd (cc)
  words_ordered ops.Shr r e o h = absurd (cc)
  words_ordered ops.BitAnd r e o h = absurd (cc)
  words_ordered ops.BitXor r e o h = absurd (cc)
  words_ordered ops.BitOr r e o h = absurd (cc)

pub below_not : (m n : ℕ) → nat_le n m ≡ not (nat_lt m n)
below_not m n = go (nat_lt m n) refl
  where
    go : (b : Bool) → nat_lt m n ≡ b → nat_le n m ≡ not b
    go true e = grind (arith, nat_tests)
    go false e = grind (arith, nat_tests)

most_not : (m n : ℕ) → nat_lt m n ≡ not (nat_le n m)
most_not m n = go (nat_le n m) refl
  where
    go : (b : Bool) → nat_le n m ≡ b → nat_lt m n ≡ not b
    go true e = grind (arith, nat_tests)
    go false e = grind (arith, nat_tests)

pub negated_holds : (r : Relation) (m n : ℕ) → IsOrder r → holds (negated r) m n ≡ not (holds r m n)
negated_holds Less m n o = below_not m n
negated_holds NotLess m n o = most_not m n
negated_holds Greater m n o = below_not n m
negated_holds NotGreater m n o = most_not n m
negated_holds Equal m n o = absurd o
negated_holds Unequal m n o = absurd o

pub is_order : (s : Bool) (r : Relation) → IsOrder r → IsOrder (relation_by s r)
is_order true r o = o
is_order false Less o = tt
is_order false NotLess o = tt
is_order false Greater o = tt
is_order false NotGreater o = tt
is_order false Equal o = absurd o
is_order false Unequal o = absurd o

by_sense_holds : (s : Bool) (r : Relation) (m n : ℕ) (y : Bool) → IsOrder r → holds r m n ≡ y → holds (relation_by s r) m n ≡ beq y s
by_sense_holds true r m n true o e = e
by_sense_holds true r m n false o e = e
by_sense_holds false r m n true o e = negated_holds r m n o ∙ ap not e
by_sense_holds false r m n false o e = negated_holds r m n o ∙ ap not e

pub order_lines_are : (r : Relation) (low high : OperandByte) (own to : ℕ) → IsOrder r → compare_code r false (Word low high) own to ≡ difference_code r (Word low high) ++ order_code r false own to
order_lines_are Less low high own to o = refl
order_lines_are NotLess low high own to o = refl
order_lines_are Greater low high own to o = refl
order_lines_are NotGreater low high own to o = refl
order_lines_are Equal low high own to o = absurd o
order_lines_are Unequal low high own to o = absurd o

pub ordered_words_settle : OrderedWordsSettle
ordered_words_settle g a m op r t d low high s to own needs more_needs pushed first second left right placed by_op o narrow plain pair before reads =
    let x : Relation = relation_by s r in
    let ls : List Line = compare_code x false (Word low high) own to in
    left_settles g a m op t s to needs more_needs pushed first second left ls d placed (order_compares op r by_op) reads (λ c w b u p q y ready is bytes fits1 fits2 e n v pos turns z seen has turned k.
    let h = has_pair g c w u t d low high q pair narrow bytes in
    let ax : ax_of u ≡ word_of t p = subst (λ width. primary_of width u ≡ word_of t p) narrow is in
    let same : holds x (ax_of u) (byte_in g u low + 256 * byte_in g u high) ≡ beq y s = ap (λ i. holds x i (byte_in g u low + 256 * byte_in g u high)) ax ∙ ap (holds x (word_of t p)) h.word ∙ by_sense_holds s r (word_of t p) (word_of t q) y o (words_ordered t p q y plain fits1 fits2 op r by_op o e) in
    follows_weaken g n (8 + v) (60 + v) z (place_in g a pos) u seen (omega arith)
    (subst (λ i. LeadsBy g a i 8 to (beq y s) u (OnlyRegs u)) (sym (order_lines_are x low high own to (is_order s r o)))
    (order_leads g a u placed (is_on g a pushed more_needs c w b u placed ready) to own low high h.may h.may2 h.small h.small2 x (beq y s) (is_order s r o) same) n v pos turns z seen has turned k)) before
