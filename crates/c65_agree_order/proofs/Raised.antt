-- Comparisons with a number that is taken one greater.
use Rattle.std.proofs.Common.{◌≡◌, ℕ, ◌+◌, ◌-◌, ◌%◌, max, ◌<◌, ◌≤◌, ◌⊎◌, inl, inr, List, ◌∷◌, ◌++◌, length, ℤ, pos, negsuc, Bool, true, false, Some, refl, sym, ap, ◌∙◌, subst, arith, length-append}
use Rattle.std.specs.Prelude.{◌==◌, not, nat_lt, nat_le, Ok}
use Rattle.std.specs.Bool.{beq}
use Rattle.std.proofs.lemmas.Int.{ints}
use Rattle.std.proofs.lemmas.Bool.{cases_lt}
use Rattle.std.proofs.lemmas.Bool.Decides.{nat_tests}
use Rattle.c65_base.specs.declared.operators.BinaryOp.{BinaryOp}
use Rattle.c65_ints.specs.declared.types.IntType.{IntType}
use Rattle.c65_ints.specs.declared.types.IntType.TheVariants as I
use Rattle.c65_ints.specs.Ranges.{is_signed_of, greatest_of, InRange, residue}
use Rattle.c65_meaning.specs.Integers.{truth}
use Rattle.c65_meaning.specs.Store.{Whole, Number}
use Rattle.c65_meaning.specs.Items.{Item, Apply2}
use Rattle.c65_meaning.specs.Operators.{calculated}
use Rattle.c65_meaning.specs.State.{Scene, Running}
use Rattle.c65_code.specs.declared.line.Line.{Line}
use Rattle.c65_code.specs.declared.routine.Width.{Width}
use Rattle.c65_code.specs.declared.routine.Width.TheVariants.{Ax, Eax}
use Rattle.c65_code.specs.LineState.{State}
use Rattle.c65_code.specs.Numbers.{words_of, turned}
use Rattle.c65_code.specs.Placement.{IsPlacement}
use Rattle.c65_code.specs.Rows.{primary_of}
use Rattle.c65_genwide.specs.Wide.{width_of}
use Rattle.c65_gendirect.specs.declared.bytes.OperandByte.TheVariants as operands
use Rattle.c65_gendirect.specs.declared.direct.Direct.TheVariants as directs
use Rattle.c65_gendirect.specs.declared.compare.Sides.{Sides}
use Rattle.c65_gendirect.specs.declared.compare.Sides.TheVariants.{Word, Long}
use Rattle.c65_gendirect.specs.declared.relation.Relation.{Relation}
use Rattle.c65_gendirect.specs.declared.relation.Relation.TheVariants.{Less, NotLess, Greater, NotGreater, Equal, Unequal}
use Rattle.c65_gendirect.specs.Bytes.{number_byte}
use Rattle.c65_gendirect.specs.Compare.{relation_of, mirrored, compare_code}
use Rattle.c65_genexpr.specs.Operands.{residue_of}
use Rattle.c65_genexpr.specs.Direct.{sides_of}
use Rattle.c65_genexpr.specs.Comparing.{relation_by, is_raised, raised, one_more}
use Rattle.c65_agree_store.specs.Stands.{Placing, Banks}
use Rattle.c65_agree_numbers.specs.Words.{word_of}
use Rattle.c65_agree_numbers.proofs.Residues.{word_below}
use Rattle.c65_agree_numbers.proofs.Tests.{equal, rank}
use Rattle.c65_agree_state.specs.World.{World, Active, lines_of, place_in, IsPlaced}
use Rattle.c65_agree_state.specs.Exprs.{Ready, Valued, ResultIs}
use Rattle.c65_agree_state.proofs.Followed.{follows_weaken}
use Rattle.c65_agree_state.proofs.Nodes.{has_front, has_back, ready_stays}
use Rattle.c65_agree_put.proofs.Fits.{may_fit}
use Rattle.c65_agree_direct.specs.Operands.{HasBytes}
use Rattle.c65_agree_direct.specs.Laws.{IsReadInPlace}
use Rattle.c65_agree_operate.specs.Manners.{Manner, DoesIn}
use Rattle.c65_agree_operate.specs.Laws.{on_numbers}
use Rattle.c65_agree_operate_bytes.specs.Laws.{IsReadBehind}
use Rattle.c65_agree_compare.specs.Branches.{SettlesIn}
use Rattle.c65_agree_operate_bytes.proofs.DirectLefts.{less_left}
use Rattle.c65_agree_compare.proofs.Ways.{LeadsBy}
use Rattle.c65_agree_compare.proofs.Equal.{OnlyRegs}
use Rattle.c65_agree_compare.proofs.Directs.{left_settles, order_compares}
use Rattle.c65_agree_compare.proofs.Last.{settled_follows}
use Rattle.c65_agree_order.specs.Laws.{RaisedWordsSettle, RaisedWordsBehindSettle, RaisedLongsSettle, RaisedLongsBehindSettle}
use Rattle.c65_agree_order.proofs.Tells.{tells, mirrored_tells}
use Rattle.c65_agree_order.proofs.Wholes.{IsReadAs, of_width, sides_are_read, whole_leads}
use Rattle.c65_agree_order.proofs.Words.{asked}

-- ---- the next number

-- of the words of a type the last one in its order is that of the greatest number
is_last : (t : IntType) (z : ℤ) → InRange t z → words_of (width_of t) - 1 ≤ rank (is_signed_of t) (width_of t) (word_of t z) → residue_of z ≡ residue_of (greatest_of t)
is_last I.SChar (pos n) r h = absurd (omega (arith, ints, r.high, h))
is_last I.SChar (negsuc n) r h = absurd (omega (arith, ints, r.low, h))
is_last I.UChar (pos n) r h = absurd (omega (arith, ints, r.high, h))
is_last I.UChar (negsuc n) r h = absurd (omega (arith, ints, r.low))
is_last I.Short (pos n) r h = omega (arith, ints, r.high, h)
is_last I.Short (negsuc n) r h = absurd (omega (arith, ints, r.low, h))
is_last I.UShort (pos n) r h = omega (arith, ints, r.high, h)
is_last I.UShort (negsuc n) r h = absurd (omega (arith, ints, r.low))
is_last I.Int (pos n) r h = omega (arith, ints, r.high, h)
is_last I.Int (negsuc n) r h = absurd (omega (arith, ints, r.low, h))
is_last I.UInt (pos n) r h = omega (arith, ints, r.high, h)
is_last I.UInt (negsuc n) r h = absurd (omega (arith, ints, r.low))
is_last I.Long (pos n) r h = omega (arith, ints, r.high, h)
is_last I.Long (negsuc n) r h = absurd (omega (arith, ints, r.low, h))
is_last I.ULong (pos n) r h = omega (arith, ints, r.high, h)
is_last I.ULong (negsuc n) r h = absurd (omega (arith, ints, r.low))

-- where the generator takes the next number there is one
pub no_last : (x : Relation) (t : IntType) (n : ℕ) → is_raised x t (directs.Number n) ≡ true → (n == residue_of (greatest_of t)) ≡ false
no_last Greater t n e = go (n == residue_of (greatest_of t)) e
  where
    go : (b : Bool) → not b ≡ true → b ≡ false
    go true h = sym h
    go false h = refl
no_last NotGreater t n e = go (n == residue_of (greatest_of t)) e
  where
    go : (b : Bool) → not b ≡ true → b ≡ false
    go true h = sym h
    go false h = refl
no_last Less t n e = absurd (cc)
no_last NotLess t n e = absurd (cc)
no_last Equal t n e = absurd (cc)
no_last Unequal t n e = absurd (cc)

has_next : (x : Relation) (t : IntType) (z : ℤ) → InRange t z → is_raised x t (directs.Number (residue_of z)) ≡ true → rank (is_signed_of t) (width_of t) (word_of t z) < words_of (width_of t) - 1
has_next x t z fits e = go (cases_lt (rank (is_signed_of t) (width_of t) (word_of t z)) (words_of (width_of t) - 1))
  where
    go : (rank (is_signed_of t) (width_of t) (word_of t z) < words_of (width_of t) - 1) ⊎ (words_of (width_of t) - 1 ≤ rank (is_signed_of t) (width_of t) (word_of t z)) → rank (is_signed_of t) (width_of t) (word_of t z) < words_of (width_of t) - 1
    go (inl h) = h
    go (inr h) =
        let same : (residue_of z == residue_of (greatest_of t)) ≡ (residue_of (greatest_of t) == residue_of (greatest_of t)) = ap (λ n. n == residue_of (greatest_of t)) (is_last t z fits h) in
        let yes : (residue_of (greatest_of t) == residue_of (greatest_of t)) ≡ true = equal (residue_of (greatest_of t)) (residue_of (greatest_of t)) refl in
        let clash : true ≡ false = sym yes ∙ sym same ∙ no_last x t (residue_of z) e in absurd (cc)

not_before : (k m : ℕ) → nat_le (k + 1) m ≡ nat_lt k m
not_before k m = go (nat_lt k m) refl
  where
    go : (b : Bool) → nat_lt k m ≡ b → nat_le (k + 1) m ≡ b
    go true e = grind (arith, nat_tests)
    go false e = grind (arith, nat_tests)

before : (m k : ℕ) → nat_lt m (k + 1) ≡ nat_le m k
before m k = go (nat_le m k) refl
  where
    go : (b : Bool) → nat_le m k ≡ b → nat_lt m (k + 1) ≡ b
    go true e = grind (arith, nat_tests)
    go false e = grind (arith, nat_tests)

abbrev pub next : Width → ℕ → ℕ
next width n = (n + 1) % words_of width

turned_next : (width : Width) (n : ℕ) → n < words_of width → turned width n < words_of width - 1 → turned width (next width n) ≡ turned width n + 1
turned_next Ax n h f = omega (arith, h, f)
turned_next Eax n h f = omega (arith, h, f)

plain_next : (width : Width) (n : ℕ) → n < words_of width - 1 → next width n ≡ n + 1
plain_next Ax n h = omega (arith, h)
plain_next Eax n h = omega (arith, h)

-- the other relation to the next number is the same
pub next_tells : (x : Relation) (sign : Bool) (width : Width) (t : IntType) (i m n : ℕ) → is_raised x t (directs.Number i) ≡ true → n < words_of width → rank sign width n < words_of width - 1 → tells (raised x) sign width m (next width n) ≡ tells x sign width m n
next_tells Greater true width t i m n e h f = ap (λ k. nat_le k (turned width m)) (turned_next width n h f) ∙ not_before (turned width n) (turned width m)
next_tells Greater false width t i m n e h f = ap (λ k. nat_le k m) (plain_next width n f) ∙ not_before n m
next_tells NotGreater true width t i m n e h f = ap (nat_lt (turned width m)) (turned_next width n h f) ∙ before (turned width m) (turned width n)
next_tells NotGreater false width t i m n e h f = ap (nat_lt m) (plain_next width n f) ∙ before m n
next_tells Less sign width t i m n e h f = absurd (cc)
next_tells NotLess sign width t i m n e h f = absurd (cc)
next_tells Equal sign width t i m n e h f = absurd (cc)
next_tells Unequal sign width t i m n e h f = absurd (cc)

-- ---- its bytes

some_sides : (x y : Sides) → Some x ≡ Some y → x ≡ y
some_sides x y e = cc

abbrev number_sides : Width → ℕ → Sides
number_sides Ax k = Word (operands.Number (number_byte k 0)) (operands.Number (number_byte k 1))
number_sides Eax k = Long (operands.Number (number_byte k 0)) (operands.Number (number_byte k 1)) (operands.Number (number_byte k 2)) (operands.Number (number_byte k 3))

sides_of_number : (width : Width) (k : ℕ) → sides_of width (directs.Number k) ≡ Some (number_sides width k)
sides_of_number Ax k = refl
sides_of_number Eax k = refl

-- the word of the lines' own number
number_is_read : (g : World) (u : State) (width : Width) (k : ℕ) → IsReadAs g u (number_sides width k) (k % words_of width)
number_is_read g u Ax k = record { may = (omega arith, omega arith, omega arith, omega arith); is = omega arith }
number_is_read g u Eax k =
    record {
      may = record { may = omega arith; may2 = omega arith; may3 = omega arith; may4 = omega arith; small = omega arith; small2 = omega arith; small3 = omega arith; small4 = omega arith };
      is = omega arith;
    }

own_sides : (g : World) (u : State) (width : Width) (k : ℕ) (sides : Sides) → sides_of width (directs.Number k) ≡ Some sides → IsReadAs g u sides (k % words_of width)
own_sides g u width k sides e = subst (λ x. IsReadAs g u x (k % words_of width)) (some_sides (number_sides width k) sides (sym (sides_of_number width k) ∙ e)) (number_is_read g u width k)

low_word : (width : Width) (z : ℤ) → residue_of z % words_of width ≡ residue (words_of width) z
low_word Ax (pos n) = omega arith
low_word Ax (negsuc n) = omega arith
low_word Eax (pos n) = omega arith
low_word Eax (negsuc n) = omega arith

next_low : (width : Width) (n : ℕ) → (n + 1) % 4294967296 % words_of width ≡ next width (n % words_of width)
next_low Ax n = omega arith
next_low Eax n = omega arith

-- a value that is read as the number has its word
same_word : (g : World) (c : Scene) (w : Placing) (u : State) (t : IntType) (z q : ℤ) → HasBytes g c.store w u (width_of t) (directs.Number (residue_of z)) (Whole q) → word_of t q ≡ word_of t z
same_word g c w u t z q bytes =
    let n : ℕ = residue_of z in
    let sides : Sides = number_sides (width_of t) n in
    sym (sides_are_read g c w u t (directs.Number n) q bytes sides (sides_of_number (width_of t) n)).is ∙ (number_is_read g u (width_of t) n).is ∙ low_word (width_of t) z

module _ (g : World) (a : Active) (op : BinaryOp) (r : Relation) (t : IntType) (z : ℤ) (sides : Sides) (s : Bool) (to own pushed needs : ℕ) (placed : IsPlacement g.code g.place) (labels : IsPlaced (lines_of g a)) (by_op : relation_of op ≡ Some r) (range : InRange t z) (is_sides : sides_of (width_of t) (one_more (directs.Number (residue_of z))) ≡ Some sides) where
  abbrev sign : Bool
  sign = is_signed_of t

  next_is_read : (u : State) → IsReadAs g u sides (next (width_of t) (word_of t z))
  next_is_read u =
      subst (λ n. IsReadAs g u sides (next (width_of t) n)) (low_word (width_of t) z) (subst (IsReadAs g u sides) (next_low (width_of t) (residue_of z)) (own_sides g u (width_of t) ((residue_of z + 1) % 4294967296) sides is_sides))

  -- the lines, where the primary register has one number and the other one is z
  leads : (x : Relation) → is_raised x t (directs.Number (residue_of z)) ≡ true → (c : Scene) (w : Placing) (b : Banks) (u : State) (m : ℕ) (y : Bool) → Ready g a pushed needs c w b u → primary_of (width_of t) u ≡ m → tells x sign (width_of t) m (word_of t z) ≡ y → LeadsBy g a (compare_code (raised x) sign sides own to) 60 to y u (OnlyRegs u)
  leads x up c w b u m y ready is e =
      whole_leads g a own to pushed needs placed labels (raised x) sign (width_of t) sides c w b u m (next (width_of t) (word_of t z)) y ready (of_width (width_of t) (one_more (directs.Number (residue_of z))) sides is_sides) is (next_is_read u)
      (next_tells x sign (width_of t) t (residue_of z) m (word_of t z) up (word_below (width_of t) z) (has_next x t z range up) ∙ e)

  pub forth : is_raised (relation_by s r) t (directs.Number (residue_of z)) ≡ true → (c : Scene) (w : Placing) (b : Banks) (u : State) (p q : ℤ) (y : Bool) → Ready g a pushed needs c w b u → primary_of (width_of t) u ≡ word_of t p → HasBytes g c.store w u (width_of t) (directs.Number (residue_of z)) (Whole q) → InRange t p → InRange t q → calculated op t p q ≡ Ok (Whole (truth y))
      → LeadsBy g a (compare_code (raised (relation_by s r)) sign sides own to) 60 to (beq y s) u (OnlyRegs u)
  forth up c w b u p q y ready is bytes fits1 fits2 e =
      leads (relation_by s r) up c w b u (word_of t p) (beq y s) ready is
      (ap (tells (relation_by s r) sign (width_of t) (word_of t p)) (sym (same_word g c w u t z q bytes)) ∙ asked g a op r t s to own pushed needs placed labels by_op p q y fits1 fits2 e)

  pub back : is_raised (mirrored (relation_by s r)) t (directs.Number (residue_of z)) ≡ true → (c : Scene) (w : Placing) (b : Banks) (u : State) (p q : ℤ) (y : Bool) → Ready g a pushed needs c w b u → primary_of (width_of t) u ≡ word_of t q → HasBytes g c.store w u (width_of t) (directs.Number (residue_of z)) (Whole p) → InRange t p → InRange t q → calculated op t p q ≡ Ok (Whole (truth y))
      → LeadsBy g a (compare_code (raised (mirrored (relation_by s r))) sign sides own to) 60 to (beq y s) u (OnlyRegs u)
  back up c w b u p q y ready is bytes fits1 fits2 e =
      leads (mirrored (relation_by s r)) up c w b u (word_of t q) (beq y s) ready is
      (ap (tells (mirrored (relation_by s r)) sign (width_of t) (word_of t q)) (sym (same_word g c w u t z p bytes)) ∙ mirrored_tells (relation_by s r) sign (width_of t) (word_of t p) (word_of t q) ∙ asked g a op r t s to own pushed needs placed labels by_op p q y fits1 fits2 e)

-- ---- the number is the right side

module _ (g : World) (a : Active) (m : Manner) (op : BinaryOp) (r : Relation) (t : IntType) (z : ℤ) (sides : Sides) (s : Bool) (to own needs more_needs pushed : ℕ) (first second : List Item → List Item) (left : List Line) (placed : IsPlacement g.code g.place) (labels : IsPlaced (lines_of g a)) (by_op : relation_of op ≡ Some r) (range : InRange t z)
    (up : is_raised (relation_by s r) t (directs.Number (residue_of z)) ≡ true) (is_sides : sides_of (width_of t) (one_more (directs.Number (residue_of z))) ≡ Some sides) where
  forth_settles : DoesIn g a m Valued (Number t) first needs pushed left → IsReadInPlace g a pushed (Number t) second (directs.Number (residue_of z))
      → SettlesIn g a m s to (on_numbers op t t first second) (max needs (1 + more_needs)) pushed (left ++ compare_code (raised (relation_by s r)) (is_signed_of t) sides own to)
  forth_settles before reads =
      left_settles g a m op t s to needs more_needs pushed first second left (compare_code (raised (relation_by s r)) (is_signed_of t) sides own to) (directs.Number (residue_of z)) placed (order_compares op r by_op) reads
      (λ c w b u p q y ready is bytes fits1 fits2 e. forth g a op r t z sides s to own pushed more_needs placed labels by_op range is_sides up c w b u p q y ready is bytes fits1 fits2 e) before

pub raised_words_settle : RaisedWordsSettle
raised_words_settle g a m op r t z low high s to own needs more_needs pushed first second left right placed labels by_op narrow range up pair before reads =
    forth_settles g a m op r t z (Word low high) s to own needs more_needs pushed first second left placed labels by_op range up (subst (λ width. sides_of width (one_more (directs.Number (residue_of z))) ≡ Some (Word low high)) (sym narrow) pair) before reads

pub raised_longs_settle : RaisedLongsSettle
raised_longs_settle g a m op r t z one two three four s to own needs more_needs pushed first second left right placed labels by_op wide range up all before reads =
    forth_settles g a m op r t z (Long one two three four) s to own needs more_needs pushed first second left placed labels by_op range up (subst (λ width. sides_of width (one_more (directs.Number (residue_of z))) ≡ Some (Long one two three four)) (sym wide) all) before reads

-- ---- the number is the left side

module _ (g : World) (a : Active) (m : Manner) (pure : Bool) (op : BinaryOp) (r : Relation) (t : IntType) (z : ℤ) (sides : Sides) (s : Bool) (to own needs more_needs pushed : ℕ) (first second : List Item → List Item) (right : List Line) (placed : IsPlacement g.code g.place) (labels : IsPlaced (lines_of g a)) (by_op : relation_of op ≡ Some r) (range : InRange t z)
    (up : is_raised (mirrored (relation_by s r)) t (directs.Number (residue_of z)) ≡ true) (is_sides : sides_of (width_of t) (one_more (directs.Number (residue_of z))) ≡ Some sides) (wanted : m.pure ≡ true → pure ≡ true) where
  abbrev end : List Line
  end = compare_code (raised (mirrored (relation_by s r))) (is_signed_of t) sides own to

  back_settles : IsReadBehind g a pure pushed (Number t) first (directs.Number (residue_of z)) → DoesIn g a (record m { pure = pure }) Valued (Number t) second more_needs pushed right → SettlesIn g a m s to (on_numbers op t t first second) (max needs (1 + more_needs)) pushed (right ++ end)
  back_settles reads behind n weight p k vs c w b u seen has ready turns rest =
      let ready1 : Ready g a pushed more_needs c w b u = record { joins = ready.joins; sp = ready.sp; room = omega (arith, ready.room); none_pushed = ready.none_pushed } in
      reads more_needs n weight (second (Apply2 op (Number t) (Number t) ∷ k)) vs c w b (place_in g a p) u seen ready1 turns (λ j va lt fit told.
      follows_weaken g j weight (weight + 4000) (Running (second (Apply2 op (Number t) (Number t) ∷ k)) (va ∷ vs) c) (place_in g a p) u seen (omega arith)
      (behind j weight p (Apply2 op (Number t) (Number t) ∷ k) (va ∷ vs) c w b u seen (has_front (lines_of g a) p right end has) ready1 turns (λ i vb c3 w3 b3 s3 seen3 lt3 done3 left3 turned3.
      let ready3 : Ready g a pushed more_needs c3 w3 b3 s3 = ready_stays g a pushed more_needs more_needs c c3 w w3 b b3 u s3 (omega arith) ready1 done3.kept in
      let ends : p + length right + length end ≡ p + length (right ++ end) = omega (arith, length-append right end) in
      settled_follows g a m op t s to placed (order_compares op r by_op) pushed more_needs n weight (p + length (right ++ end)) (p + length right) end ends k vs c w b u rest (has_back (lines_of g a) p right end has) c3 w3 b3 s3 ready3 done3.kept (less_left m pure c c3 u s3 wanted left3) va vb (may_fit (Number t) va tt fit) done3.fits
      (λ x i y e f fits1 fits2 gives.
      let bytes : HasBytes g c3.store w3 s3 (width_of t) (directs.Number (residue_of z)) (Whole x) = subst (HasBytes g c3.store w3 s3 (width_of t) (directs.Number (residue_of z))) e (told more_needs c3 w3 b3 s3 left3.scene done3.kept.grows ready3) in
      let result3 : primary_of (width_of t) s3 ≡ word_of t i = subst (λ v. ResultIs Valued w3 (width_of t) v s3) f done3.result in
      back g a op r t z sides s to own pushed more_needs placed labels by_op range is_sides up c3 w3 b3 s3 x i y ready3 result3 bytes fits1 fits2 gives)
      seen3 turned3 (weight + 2600 + m.over) (omega arith) i (omega (arith, lt, lt3)))))

pub raised_words_behind_settle : RaisedWordsBehindSettle
raised_words_behind_settle g a m pure op r t z low high s to own needs more_needs pushed first second left right placed labels by_op narrow range up pair wanted reads behind =
    back_settles g a m pure op r t z (Word low high) s to own needs more_needs pushed first second right placed labels by_op range up (subst (λ width. sides_of width (one_more (directs.Number (residue_of z))) ≡ Some (Word low high)) (sym narrow) pair) wanted reads behind

pub raised_longs_behind_settle : RaisedLongsBehindSettle
raised_longs_behind_settle g a m pure op r t z one two three four s to own needs more_needs pushed first second left right placed labels by_op wide range up all wanted reads behind =
    back_settles g a m pure op r t z (Long one two three four) s to own needs more_needs pushed first second right placed labels by_op range up (subst (λ width. sides_of width (one_more (directs.Number (residue_of z))) ≡ Some (Long one two three four)) (sym wide) all) wanted reads behind
