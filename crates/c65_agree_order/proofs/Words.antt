-- Comparisons of words and of long words.
use Rattle.std.proofs.Common.{◌≡◌, ℕ, ◌+◌, ◌≤◌, max, List, ◌∷◌, ◌++◌, length, ℤ, Bool, true, false, Some, sym, ◌∙◌, subst, arith, length-append}
use Rattle.std.specs.Prelude.{Ok}
use Rattle.std.specs.Bool.{beq}
use Rattle.c65_base.specs.declared.operators.BinaryOp.{BinaryOp}
use Rattle.c65_ints.specs.declared.types.IntType.{IntType}
use Rattle.c65_ints.specs.Ranges.{is_signed_of, InRange}
use Rattle.c65_meaning.specs.Integers.{truth}
use Rattle.c65_meaning.specs.Store.{Value, Whole, Number}
use Rattle.c65_meaning.specs.Items.{Item, Apply2}
use Rattle.c65_meaning.specs.Operators.{calculated}
use Rattle.c65_meaning.specs.State.{Scene, Running}
use Rattle.c65_code.specs.declared.line.Line.{Line}
use Rattle.c65_code.specs.declared.routine.Width.TheVariants.{Ax}
use Rattle.c65_code.specs.LineState.{State, ax_of, IsBytes}
use Rattle.c65_code.specs.Placement.{IsPlacement}
use Rattle.c65_code.specs.Rows.{primary_of}
use Rattle.c65_code.specs.Comes.{Seen}
use Rattle.c65_genwide.specs.Wide.{width_of}
use Rattle.c65_gendirect.specs.declared.direct.Direct.{Direct}
use Rattle.c65_gendirect.specs.declared.compare.Sides.{Sides}
use Rattle.c65_gendirect.specs.declared.compare.Sides.TheVariants.{Word, Long}
use Rattle.c65_gendirect.specs.declared.relation.Relation.{Relation}
use Rattle.c65_gendirect.specs.Compare.{relation_of, mirrored, compare_code}
use Rattle.c65_genexpr.specs.Direct.{sides_of}
use Rattle.c65_genexpr.specs.Comparing.{relation_by}
use Rattle.c65_genexpr.specs.Held.{held_low, held_high, keep_code}
use Rattle.c65_agree_store.specs.Stands.{Placing, Banks}
use Rattle.c65_agree_numbers.specs.Words.{word_of}
use Rattle.c65_agree_state.specs.World.{World, Active, lines_of, place_in, IsPlaced, HasAt, HasTurns}
use Rattle.c65_agree_state.specs.Follows.{Follows}
use Rattle.c65_agree_state.specs.Exprs.{Ready, Valued, ResultIs, Kept, Done}
use Rattle.c65_agree_state.proofs.Followed.{follows_weaken}
use Rattle.c65_agree_state.proofs.Nodes.{has_front, has_back, ready_stays}
use Rattle.c65_agree_state.proofs.Parts.{kept_goes_on}
use Rattle.c65_agree_put.proofs.Fits.{may_fit}
use Rattle.c65_agree_direct.specs.Operands.{HasBytes}
use Rattle.c65_agree_direct.specs.Laws.{IsReadInPlace}
use Rattle.c65_agree_operate.specs.Manners.{Manner, IsHeld, IsLeft, DoesIn}
use Rattle.c65_agree_operate.specs.Laws.{on_numbers}
use Rattle.c65_agree_operate.proofs.Manners.{left_then, dark}
use Rattle.c65_agree_operate_bytes.specs.Laws.{IsReadBehind}
use Rattle.c65_agree_operate_bytes.proofs.DirectLefts.{less_left}
use Rattle.c65_agree_operate_bytes.proofs.Held.{waiting, keep_leads, kept_waiting, ready_waiting}
use Rattle.c65_agree_compare.specs.Branches.{RestOfSettled, SettlesIn}
use Rattle.c65_agree_compare.proofs.Ways.{LeadsBy}
use Rattle.c65_agree_compare.proofs.Equal.{OnlyRegs}
use Rattle.c65_agree_compare.proofs.Directs.{HasPair, left_settles, order_compares}
use Rattle.c65_agree_compare.proofs.Last.{settled_follows}
use Rattle.c65_agree_order.specs.Laws.{WordsSettle, WordsBehindSettle, HeldWordsSettle, LongsSettle, LongsBehindSettle}
use Rattle.c65_agree_order.proofs.Tells.{tells, words_tell, sense_tells, mirrored_tells}
use Rattle.c65_agree_order.proofs.Wholes.{IsOfWidth, IsReadAs, pair_is_read, of_width, sides_are_read, whole_leads}

module _ (g : World) (a : Active) (op : BinaryOp) (r : Relation) (t : IntType) (s : Bool) (to own pushed needs : ℕ) (placed : IsPlacement g.code g.place) (labels : IsPlaced (lines_of g a)) (by_op : relation_of op ≡ Some r) where
  abbrev sign : Bool
  sign = is_signed_of t

  -- the relation that is asked for tells of the words what it does of the numbers
  pub asked : (p q : ℤ) (y : Bool) → InRange t p → InRange t q → calculated op t p q ≡ Ok (Whole (truth y)) → tells (relation_by s r) sign (width_of t) (word_of t p) (word_of t q) ≡ beq y s
  asked p q y fits1 fits2 e = sense_tells s r sign (width_of t) (word_of t p) (word_of t q) y (words_tell op r t p q y by_op fits1 fits2 e)

  -- the left number is in the primary register
  pub forth : (d : Direct) (sides : Sides) → sides_of (width_of t) d ≡ Some sides → (c : Scene) (w : Placing) (b : Banks) (u : State) (p q : ℤ) (y : Bool) → Ready g a pushed needs c w b u → primary_of (width_of t) u ≡ word_of t p → HasBytes g c.store w u (width_of t) d (Whole q) → InRange t p → InRange t q → calculated op t p q ≡ Ok (Whole (truth y))
      → LeadsBy g a (compare_code (relation_by s r) sign sides own to) 60 to (beq y s) u (OnlyRegs u)
  forth d sides is_sides c w b u p q y ready is bytes fits1 fits2 e =
      whole_leads g a own to pushed needs placed labels (relation_by s r) sign (width_of t) sides c w b u (word_of t p) (word_of t q) (beq y s) ready (of_width (width_of t) d sides is_sides) is (sides_are_read g c w u t d q bytes sides is_sides) (asked p q y fits1 fits2 e)

  -- the right number is
  pub back : (sides : Sides) → IsOfWidth (width_of t) sides → (c : Scene) (w : Placing) (b : Banks) (u : State) (p q : ℤ) (y : Bool) → Ready g a pushed needs c w b u → primary_of (width_of t) u ≡ word_of t q → IsReadAs g u sides (word_of t p) → InRange t p → InRange t q → calculated op t p q ≡ Ok (Whole (truth y))
      → LeadsBy g a (compare_code (mirrored (relation_by s r)) sign sides own to) 60 to (beq y s) u (OnlyRegs u)
  back sides wide c w b u p q y ready is read fits1 fits2 e =
      whole_leads g a own to pushed needs placed labels (mirrored (relation_by s r)) sign (width_of t) sides c w b u (word_of t q) (word_of t p) (beq y s) ready wide is read
      (mirrored_tells (relation_by s r) sign (width_of t) (word_of t p) (word_of t q) ∙ asked p q y fits1 fits2 e)

-- ---- the right side is read

module _ (g : World) (a : Active) (m : Manner) (op : BinaryOp) (r : Relation) (t : IntType) (d : Direct) (sides : Sides) (s : Bool) (to own needs more_needs pushed : ℕ) (first second : List Item → List Item) (left : List Line) (placed : IsPlacement g.code g.place) (labels : IsPlaced (lines_of g a)) (by_op : relation_of op ≡ Some r) (is_sides : sides_of (width_of t) d ≡ Some sides) where
  forth_settles : DoesIn g a m Valued (Number t) first needs pushed left → IsReadInPlace g a pushed (Number t) second d
      → SettlesIn g a m s to (on_numbers op t t first second) (max needs (1 + more_needs)) pushed (left ++ compare_code (relation_by s r) (is_signed_of t) sides own to)
  forth_settles before reads =
      left_settles g a m op t s to needs more_needs pushed first second left (compare_code (relation_by s r) (is_signed_of t) sides own to) d placed (order_compares op r by_op) reads
      (λ c w b u p q y ready is bytes fits1 fits2 e. forth g a op r t s to own pushed more_needs placed labels by_op d sides is_sides c w b u p q y ready is bytes fits1 fits2 e) before

pub words_settle : WordsSettle
words_settle g a m op r t d low high s to own needs more_needs pushed first second left right placed labels by_op narrow pair before reads =
    forth_settles g a m op r t d (Word low high) s to own needs more_needs pushed first second left placed labels by_op (subst (λ width. sides_of width d ≡ Some (Word low high)) (sym narrow) pair) before reads

pub longs_settle : LongsSettle
longs_settle g a m op r t d one two three four s to own needs more_needs pushed first second left right placed labels by_op wide all before reads =
    forth_settles g a m op r t d (Long one two three four) s to own needs more_needs pushed first second left placed labels by_op (subst (λ width. sides_of width d ≡ Some (Long one two three four)) (sym wide) all) before reads

-- ---- the left side is read

module _ (g : World) (a : Active) (m : Manner) (pure : Bool) (op : BinaryOp) (r : Relation) (t : IntType) (d : Direct) (sides : Sides) (s : Bool) (to own needs more_needs pushed : ℕ) (first second : List Item → List Item) (right : List Line) (placed : IsPlacement g.code g.place) (labels : IsPlaced (lines_of g a)) (by_op : relation_of op ≡ Some r) (is_sides : sides_of (width_of t) d ≡ Some sides)
    (wanted : m.pure ≡ true → pure ≡ true) where
  abbrev back_lines : List Line
  back_lines = compare_code (mirrored (relation_by s r)) (is_signed_of t) sides own to

  back_settles : IsReadBehind g a pure pushed (Number t) first d → DoesIn g a (record m { pure = pure }) Valued (Number t) second more_needs pushed right → SettlesIn g a m s to (on_numbers op t t first second) (max needs (1 + more_needs)) pushed (right ++ back_lines)
  back_settles reads behind n weight p k vs c w b u seen has ready turns rest =
      let ready1 : Ready g a pushed more_needs c w b u = record { joins = ready.joins; sp = ready.sp; room = omega (arith, ready.room); none_pushed = ready.none_pushed } in
      reads more_needs n weight (second (Apply2 op (Number t) (Number t) ∷ k)) vs c w b (place_in g a p) u seen ready1 turns (λ j va lt fit told.
      follows_weaken g j weight (weight + 4000) (Running (second (Apply2 op (Number t) (Number t) ∷ k)) (va ∷ vs) c) (place_in g a p) u seen (omega arith)
      (behind j weight p (Apply2 op (Number t) (Number t) ∷ k) (va ∷ vs) c w b u seen (has_front (lines_of g a) p right back_lines has) ready1 turns (λ i vb c3 w3 b3 s3 seen3 lt3 done3 left3 turned3.
      let ready3 : Ready g a pushed more_needs c3 w3 b3 s3 = ready_stays g a pushed more_needs more_needs c c3 w w3 b b3 u s3 (omega arith) ready1 done3.kept in
      let ends : p + length right + length back_lines ≡ p + length (right ++ back_lines) = omega (arith, length-append right back_lines) in
      settled_follows g a m op t s to placed (order_compares op r by_op) pushed more_needs n weight (p + length (right ++ back_lines)) (p + length right) back_lines ends k vs c w b u rest (has_back (lines_of g a) p right back_lines has) c3 w3 b3 s3 ready3 done3.kept (less_left m pure c c3 u s3 wanted left3) va vb (may_fit (Number t) va tt fit) done3.fits
      (λ x z y e f fits1 fits2 gives.
      let bytes : HasBytes g c3.store w3 s3 (width_of t) d (Whole x) = subst (HasBytes g c3.store w3 s3 (width_of t) d) e (told more_needs c3 w3 b3 s3 left3.scene done3.kept.grows ready3) in
      let result3 : primary_of (width_of t) s3 ≡ word_of t z = subst (λ v. ResultIs Valued w3 (width_of t) v s3) f done3.result in
      back g a op r t s to own pushed more_needs placed labels by_op sides (of_width (width_of t) d sides is_sides) c3 w3 b3 s3 x z y ready3 result3 (sides_are_read g c3 w3 s3 t d x bytes sides is_sides) fits1 fits2 gives)
      seen3 turned3 (weight + 2600 + m.over) (omega arith) i (omega (arith, lt, lt3)))))

pub words_behind_settle : WordsBehindSettle
words_behind_settle g a m pure op r t d low high s to own needs more_needs pushed first second left right placed labels by_op narrow pair wanted reads behind =
    back_settles g a m pure op r t d (Word low high) s to own needs more_needs pushed first second right placed labels by_op (subst (λ width. sides_of width d ≡ Some (Word low high)) (sym narrow) pair) wanted reads behind

pub longs_behind_settle : LongsBehindSettle
longs_behind_settle g a m pure op r t d one two three four s to own needs more_needs pushed first second left right placed labels by_op wide all wanted reads behind =
    back_settles g a m pure op r t d (Long one two three four) s to own needs more_needs pushed first second right placed labels by_op (subst (λ width. sides_of width d ≡ Some (Long one two three four)) (sym wide) all) wanted reads behind

-- ---- the left side waits in ptr2

module _ (g : World) (a : Active) (m : Manner) (op : BinaryOp) (r : Relation) (t : IntType) (s : Bool) (to own needs more_needs pushed : ℕ) (first second : List Item → List Item) (left right : List Line) (placed : IsPlacement g.code g.place) (labels : IsPlaced (lines_of g a)) (heavy : m.light ≡ false) (by_op : relation_of op ≡ Some r) (narrow : width_of t ≡ Ax) where
  abbrev lit : Manner
  lit = record m { light = true }

  abbrev end : List Line
  end = compare_code (mirrored (relation_by s r)) (is_signed_of t) (Word held_low held_high) own to

  abbrev all : List Line
  all = left ++ (keep_code ++ (right ++ end))

  module _ (n weight p : ℕ) (k : List Item) (vs : List Value) (c : Scene) (w : Placing) (b : Banks) (u : State) (rest : RestOfSettled g a m s to n weight (p + length all) k vs c w b u)
      (c1 : Scene) (w1 : Placing) (b1 : Banks) (s1 : State) (va : Value) (done1 : Done g a Valued (Number t) c w b u va c1 w1 b1 s1) (left1 : IsLeft m c u c1 s1) (ready1 : Ready g a pushed more_needs c1 w1 b1 s1) (bytes : IsBytes (waiting s1))
      (c3 : Scene) (w3 : Placing) (b3 : Banks) (s3 : State) (vb : Value) (done3 : Done g a Valued (Number t) c1 w1 b1 (waiting s1) vb c3 w3 b3 s3) (left3 : IsLeft lit c1 (waiting s1) c3 s3) where
    abbrev at : ℕ
    at = p + length left + length keep_code + length right

    ends : at + length end ≡ p + length all
    ends = omega (arith, length-append left (keep_code ++ (right ++ end)), length-append keep_code (right ++ end), length-append right end)

    ready3 : Ready g a pushed more_needs c3 w3 b3 s3
    ready3 = ready_stays g a pushed more_needs more_needs c1 c3 w1 w3 b1 b3 (waiting s1) s3 (omega arith) (ready_waiting g a pushed more_needs c1 w1 b1 s1 placed ready1 bytes) done3.kept

    kept3 : Kept g a c w b u c3 w3 b3 s3
    kept3 = kept_goes_on g a c c1 c3 w w1 w3 b b1 b3 u s1 s3 done1.kept (kept_goes_on g a c1 c1 c3 w1 w1 w3 b1 b1 b3 s1 (waiting s1) s3 (kept_waiting g a pushed more_needs c1 w1 b1 s1 placed ready1 bytes) done3.kept)

    left_both : IsLeft m c u c3 s3
    left_both =
        let scene : IsLeft m c1 s1 c3 s3 = record { scene = left3.scene; held = dark m.light (IsHeld s1 s3) heavy } in
        left_then m c c1 c3 u s1 s3 left1 scene

    pair : HasPair g s3 held_low held_high (ax_of s1)
    pair =
        let low : s3.zp 10 ≡ s1.regs.a = left3.held.low in
        let high : s3.zp 11 ≡ s1.regs.x = left3.held.high in
        let small = ready1.joins.bytes in
        record { may = omega arith; may2 = omega arith; small = omega (arith, low, small.a); small2 = omega (arith, high, small.x); word = omega (arith, low, high) }

    followed : (i : ℕ) → i ≤ n → (seen : Seen) → HasAt (lines_of g a) at end → HasTurns g c3.turns (place_in g a at) seen → Follows g i (weight + 2598 + 2600 + m.over) (Running (Apply2 op (Number t) (Number t) ∷ k) (vb ∷ va ∷ vs) c3) (place_in g a at) s3 seen
    followed i le seen has turned =
        settled_follows g a m op t s to placed (order_compares op r by_op) pushed more_needs n weight (p + length all) at end ends k vs c w b u rest has c3 w3 b3 s3 ready3 kept3 left_both va vb done1.fits done3.fits
        (λ x z y e f fits1 fits2 gives.
        let result1 : primary_of (width_of t) s1 ≡ word_of t x = subst (λ v. ResultIs Valued w1 (width_of t) v s1) e done1.result in
        let result3 : primary_of (width_of t) s3 ≡ word_of t z = subst (λ v. ResultIs Valued w3 (width_of t) v s3) f done3.result in
        let ax : ax_of s1 ≡ word_of t x = subst (λ width. primary_of width s1 ≡ word_of t x) narrow result1 in
        back g a op r t s to own pushed more_needs placed labels by_op (Word held_low held_high) (subst (λ width. IsOfWidth width (Word held_low held_high)) (sym narrow) tt) c3 w3 b3 s3 x z y ready3 result3 (pair_is_read g s3 held_low held_high (word_of t x) (subst (HasPair g s3 held_low held_high) ax pair)) fits1 fits2 gives)
        seen turned (weight + 2598 + 2600 + m.over) (omega arith) i le

  held_settles : DoesIn g a m Valued (Number t) first needs pushed left → DoesIn g a lit Valued (Number t) second more_needs pushed right → SettlesIn g a m s to (on_numbers op t t first second) (max needs (1 + more_needs)) pushed all
  held_settles before behind n weight p k vs c w b u seen has ready turns rest =
      let lines = lines_of g a in
      let has1 : HasAt lines (p + length left) (keep_code ++ (right ++ end)) = has_back lines p left (keep_code ++ (right ++ end)) has in
      let has2 : HasAt lines (p + length left + length keep_code) (right ++ end) = has_back lines (p + length left) keep_code (right ++ end) has1 in
      let ready0 : Ready g a pushed needs c w b u = record { joins = ready.joins; sp = ready.sp; room = omega (arith, ready.room); none_pushed = ready.none_pushed } in
      before n weight p (second (Apply2 op (Number t) (Number t) ∷ k)) vs c w b u seen (has_front lines p left (keep_code ++ (right ++ end)) has) ready0 turns (λ j va c1 w1 b1 s1 seen1 lt done1 left1 turned1.
      let ready1 : Ready g a pushed more_needs c1 w1 b1 s1 = ready_stays g a pushed (max needs (1 + more_needs)) more_needs c c1 w w1 b b1 u s1 (omega arith) ready done1.kept in
      follows_weaken g j (2 + (weight + 2598)) (weight + 2600 + m.over) (Running (second (Apply2 op (Number t) (Number t) ∷ k)) (va ∷ vs) c1) (place_in g a (p + length left)) s1 seen1 (omega arith)
      (keep_leads g a pushed more_needs c1 w1 b1 s1 placed ready1 j (weight + 2598) (p + length left) c1.turns (Running (second (Apply2 op (Number t) (Number t) ∷ k)) (va ∷ vs) c1) seen1 (has_front lines (p + length left) keep_code (right ++ end) has1) turned1 (λ s2 seen2 kept2 turned2.
      let bytes : IsBytes (waiting s1) = subst IsBytes kept2.0 kept2.1 in
      subst (λ z. Follows g j (weight + 2598) (Running (second (Apply2 op (Number t) (Number t) ∷ k)) (va ∷ vs) c1) (place_in g a (p + length left + length keep_code)) z seen2) (sym kept2.0)
      (behind j (weight + 2598) (p + length left + length keep_code) (Apply2 op (Number t) (Number t) ∷ k) (va ∷ vs) c1 w1 b1 (waiting s1) seen2 (has_front lines (p + length left + length keep_code) right end has2) (ready_waiting g a pushed more_needs c1 w1 b1 s1 placed ready1 bytes) turned2 (λ i vb c3 w3 b3 s3 seen3 lt3 done3 left3 turned3.
      followed n weight p k vs c w b u rest c1 w1 b1 s1 va done1 left1 ready1 bytes c3 w3 b3 s3 vb done3 left3 i (omega (arith, lt, lt3)) seen3 (has_back lines (p + length left + length keep_code) right end has2) turned3)))))

pub held_words_settle : HeldWordsSettle
held_words_settle g a m op r t s to own needs more_needs pushed first second left right placed labels heavy by_op narrow before behind = held_settles g a m op r t s to own needs more_needs pushed first second left right placed labels heavy by_op narrow before behind
