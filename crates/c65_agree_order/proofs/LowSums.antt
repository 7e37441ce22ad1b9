-- Low bytes of sums, differences and operators on bits.
use Rattle.std.proofs.Common.{◌≡◌, ℕ, suc, ◌+◌, ◌*◌, ◌/◌, ◌%◌, ◌<◌, ◌≤◌, max, List, ◌∷◌, ◌++◌, length, ℤ, Bool, true, Some, sym, ap, ◌∙◌, subst, arith, length-append}
use Rattle.std.specs.Prelude.{Ok}
use Rattle.c65_base.specs.declared.operators.BinaryOp.{BinaryOp}
use Rattle.c65_ints.specs.declared.types.IntType.{IntType}
use Rattle.c65_ints.specs.Ranges.{is_signed_of, InRange, residue}
use Rattle.c65_csem.specs.Places.{is_promoted}
use Rattle.c65_meaning.specs.Store.{Value, Whole, Number}
use Rattle.c65_meaning.specs.Fits.{Fits}
use Rattle.c65_meaning.specs.Items.{Item, Apply2}
use Rattle.c65_meaning.specs.Operators.{calculated, binary}
use Rattle.c65_meaning.specs.State.{Scene, Running}
use Rattle.c65_code.specs.declared.line.Line.{Line}
use Rattle.c65_code.specs.declared.line.Line.TheVariants.{Label}
use Rattle.c65_code.specs.declared.routine.Width.TheVariants.{Ax}
use Rattle.c65_code.specs.LineState.{State}
use Rattle.c65_code.specs.Numbers.{words_of, tos_result}
use Rattle.c65_code.specs.Placement.{IsPlacement}
use Rattle.c65_code.specs.Comes.{Seen}
use Rattle.c65_genwide.specs.Wide.{width_of, tos_of}
use Rattle.c65_gendirect.specs.declared.bytes.OperandByte.{OperandByte}
use Rattle.c65_gendirect.specs.declared.direct.Direct.{Direct}
use Rattle.c65_gendirect.specs.Bytes.{byte_of as operand_of}
use Rattle.c65_gendirect.specs.Words.{first_byte_code}
use Rattle.c65_genexpr.specs.Operating.{takes_bytes}
use Rattle.c65_agree_store.specs.Stands.{Placing, Banks}
use Rattle.c65_agree_step.proofs.Ways.{labels_are_passed}
use Rattle.c65_agree_numbers.proofs.Residues.{word_below}
use Rattle.c65_agree_state.specs.World.{World, setting_in, Active, lines_of, place_in, HasAt, HasTurns}
use Rattle.c65_agree_state.specs.Follows.{Follows}
use Rattle.c65_agree_state.specs.Exprs.{Ready, Valued, MayFit, Kept}
use Rattle.c65_agree_state.proofs.Followed.{follows_weaken, steps_earn, ready_is_calm}
use Rattle.c65_agree_state.proofs.Nodes.{has_front, has_back, ready_stays}
use Rattle.c65_agree_state.proofs.Parts.{kept_goes_on}
use Rattle.c65_agree_load.proofs.Kept.{is_on}
use Rattle.c65_agree_direct.specs.Operands.{byte_in, HasBytes}
use Rattle.c65_agree_operate.specs.Manners.{Manner, IsLeft}
use Rattle.c65_agree_operate.proofs.Manners.{left_then, left_held}
use Rattle.c65_agree_operate.proofs.Given.{IsCalculated, is_calculated, result_in, words_given}
use Rattle.c65_agree_operate.proofs.Exact.{at_regs, registers_kept, registers_held, one_more}
use Rattle.c65_agree_operate_bytes.proofs.Words.{word_on, word_is, begins, byte_on, by_bytes}
use Rattle.c65_agree_operate_bytes.proofs.Rights.{no_comparison}
use Rattle.c65_agree_operate_bytes.proofs.Direct.{first, first_leads, first_a}
use Rattle.c65_agree_order.specs.Bytes.{ByteIs, Any, RestOfLow}
use Rattle.c65_agree_order.specs.Laws.{LowOperandsDo}
use Rattle.c65_agree_order.proofs.Lows.{step_goes}
use Rattle.c65_agree_order.proofs.ReadBytes.{low_of_word, byte_at}

-- ---- the byte

module _ (op : BinaryOp) (t : IntType) (takes : takes_bytes op ≡ true) (promoted : is_promoted t ≡ true) (narrow : width_of t ≡ Ax) (p q z : ℤ) (fits1 : InRange t p) (fits2 : InRange t q) (is : calculated op t p q ≡ Ok (Whole z)) where
  abbrev left_word : ℕ
  left_word = residue 65536 p

  abbrev right_word : ℕ
  right_word = residue 65536 q

  words_are : word_on op left_word right_word ≡ residue 65536 z
  words_are =
      let given : tos_result (tos_of op (is_signed_of t)) Ax left_word right_word ≡ Some (residue 65536 z) =
      subst (λ width. tos_result (tos_of op (is_signed_of t)) width (residue (words_of width) p) (residue (words_of width) q) ≡ Some (residue (words_of width) z)) narrow (words_given op t p q z (no_comparison op takes) promoted fits1 fits2 is) in
      let same : Some (word_on op left_word right_word) ≡ Some (residue 65536 z) = sym (word_is op (is_signed_of t) left_word right_word takes) ∙ given in
      cc

  -- that of the result is the operator's on those of the operands
  low_result : (a b i : ℕ) (c : Bool) → a ≡ residue 256 p → b ≡ residue 256 q → i < 256 → i ≡ byte_on op a b (begins op c) → i ≡ residue 256 z
  low_result a b i c e f small h =
      let few : left_word < 65536 = word_below Ax p in
      let few2 : right_word < 65536 = word_below Ax q in
      let parts = by_bytes (left_word % 256) (left_word / 256) (right_word % 256) (right_word / 256) (omega arith) (omega (arith, few)) (omega arith) (omega (arith, few2)) op c takes in
      let left : left_word % 256 + 256 * (left_word / 256) ≡ left_word = omega arith in
      let right : right_word % 256 + 256 * (right_word / 256) ≡ right_word = omega arith in
      let whole : word_on op (left_word % 256 + 256 * (left_word / 256)) (right_word % 256 + 256 * (right_word / 256)) ≡ residue 65536 z = ap (λ j. word_on op j (right_word % 256 + 256 * (right_word / 256))) left ∙ ap (word_on op left_word) right ∙ words_are in
      let here : i ≡ byte_on op (left_word % 256) (right_word % 256) (begins op c) = h ∙ ap (λ j. byte_on op j b (begins op c)) (e ∙ sym (low_of_word Ax p)) ∙ ap (λ j. byte_on op (left_word % 256) j (begins op c)) (f ∙ sym (low_of_word Ax q)) in
      lowest i (byte_on op (left_word % 256) (right_word % 256) (begins op c)) _ (residue 65536 z) small here (parts ∙ whole) ∙ low_of_word Ax z
    where
      lowest : (j k r w : ℕ) → j < 256 → j ≡ k → k + 256 * r ≡ w → j ≡ w % 256
      lowest j k r w f e g = omega (arith, f, e, g)

-- ---- the lines

module _ (g : World) (a : Active) (m : Manner) (op : BinaryOp) (t : IntType) (label needs more_needs pushed : ℕ) (d : Direct) (x : OperandByte) (first_work second_work : List Item → List Item) (left : List Line) (placed : IsPlacement g.code g.place) (takes : takes_bytes op ≡ true) (promoted : is_promoted t ≡ true) (narrow : width_of t ≡ Ax) (lowest_is : operand_of d 0 ≡ Some x) where
  abbrev ls : List Line
  ls = first_byte_code op x

  abbrev all : List Line
  all = Label label ∷ (left ++ ls)

  module _ (n weight p : ℕ) (k : List Item) (vs : List Value) (c : Scene) (w : Placing) (b : Banks) (s : State) (rest : RestOfLow g a m Any t n weight k vs (p + length all) c w b s) (has : HasAt (lines_of g a) (suc p + length left) ls)
      (c1 : Scene) (w1 : Placing) (b1 : Banks) (s1 : State) (va : Value) (kept1 : Kept g a c w b s c1 w1 b1 s1) (fits1 : MayFit Valued (Number t) va) (low1 : ByteIs va s1.regs.a) (left1 : IsLeft m c s c1 s1) (ready1 : Ready g a pushed more_needs c1 w1 b1 s1) (seen : Seen) (turned : HasTurns g c1.turns (place_in g a (suc p + length left)) seen)
      (vb : Value) (fit : Fits (Number t) vb) (bytes : HasBytes g c1.store w1 s1 (width_of t) d vb) where
    abbrev at : ℕ
    at = suc p + length left

    ends : at + length ls ≡ p + length all
    ends = omega (arith, length-append left ls)

    of_numbers : (o : ℕ) → o < n → (y : Value) → IsCalculated op t va vb y → Follows g o (weight + 2600 + m.over + 4000 + 4000) (Running k (y ∷ vs) c1) (place_in g a at) s1 seen
    of_numbers o lt y h =
        let one : InRange t h.a = subst (MayFit Valued (Number t)) h.left fits1 in
        let two : InRange t h.b = subst (Fits (Number t)) h.right fit in
        let there = byte_at g c1.store w1 s1 (width_of t) d x (Whole h.b) lowest_is (subst (HasBytes g c1.store w1 s1 (width_of t) d) h.right bytes) in
        let room = one_more g a pushed more_needs c1 w1 b1 s1 ready1 in
        let on = is_on g a pushed more_needs c1 w1 b1 s1 placed ready1 in
        let value : Running k (Whole h.z ∷ vs) c1 ≡ Running k (y ∷ vs) c1 = ap (λ v. Running k (v ∷ vs) c1) (sym h.result) in
        subst (λ i. Follows g o (weight + 2600 + m.over + 4000 + 4000) i (place_in g a at) s1 seen) value
        (follows_weaken g o (3 + (weight + 2600 + m.over)) (weight + 2600 + m.over + 4000 + 4000) (Running k (Whole h.z ∷ vs) c1) (place_in g a at) s1 seen (omega arith)
        (first_leads g a op s1 placed on room x there.0 o (weight + 2600 + m.over) at c1.turns (Running k (Whole h.z ∷ vs) c1) seen has turned (λ u later come turned2.
        let regs : u.regs ≡ first g a op s1 placed on room x = ap (λ (i : State). i.regs) come.0 in
        let only : u ≡ at_regs s1 u.regs = come.0 ∙ ap (at_regs s1) (sym regs) in
        let low : u.regs.a ≡ residue 256 h.z = low_result op t takes promoted narrow h.a h.b h.z one two h.is s1.regs.a (byte_in g s1 x) u.regs.a s1.regs.c (subst (λ v. ByteIs v s1.regs.a) h.left low1) there.1 come.1.a (ap (λ (i : State). i.regs.a) come.0 ∙ first_a g a op s1 placed on room x) in
        subst (λ i. Follows g o (weight + 2600 + m.over) (Running k (Whole h.z ∷ vs) c1) (place_in g a i) u later) (sym ends)
        (rest o (Whole h.z) c1 w1 b1 u later lt (kept_goes_on g a c c1 c1 w w1 w1 b b1 b1 s s1 u kept1 (registers_kept g a pushed more_needs c1 w1 b1 s1 u placed ready1 only come.1)) (result_in op t h.a h.b h.z (no_comparison op takes) one h.is) tt low
        (left_then m c c1 c1 s s1 u left1 (left_held m c1 s1 u (registers_held s1 u only))) (subst (λ i. HasTurns g c1.turns (place_in g a i) later) ends turned2)))))

    followed : (i : ℕ) → i ≤ n → Follows g i (weight + 2600 + m.over + 4000) (Running (Apply2 op (Number t) (Number t) ∷ k) (vb ∷ va ∷ vs) c1) (place_in g a at) s1 seen
    followed i le =
        steps_earn g i (weight + 2600 + m.over + 4000) (Apply2 op (Number t) (Number t)) k (vb ∷ va ∷ vs) c1 (place_in g a at) s1 seen (ready_is_calm g a pushed more_needs c1 w1 b1 s1 ready1).calm ready1.joins.output ready1.joins.ended (omega (arith, turned)) (λ o less.
        step_goes g o (weight + 2600 + m.over + 4000 + 4000) (place_in g a at) s1 seen k vs c1 (binary c1.store op (Number t) (Number t) va vb) (λ y e. of_numbers o (omega (arith, le, less)) y (is_calculated c1.store op t t va vb y e)))

pub low_operands_do : LowOperandsDo
low_operands_do g a m op t label needs more_needs pushed d x first_work second_work left placed takes promoted narrow lowest_is before reads n weight p k vs c w b s seen has ready turns rest =
    let ls : List Line = first_byte_code op x in
    let ready0 : Ready g a pushed needs c w b s = record { joins = ready.joins; sp = ready.sp; room = omega (arith, ready.room); none_pushed = ready.none_pushed } in
    let come : place_in g a p ≡ place_in g a (suc p) = labels_are_passed (setting_in g) a.symbol p label has.0 in
    subst (λ i. Follows g n weight (Running (first_work (second_work (Apply2 op (Number t) (Number t) ∷ k))) vs c) i s seen) (sym come)
    (before n weight (suc p) (second_work (Apply2 op (Number t) (Number t) ∷ k)) vs c w b s seen (has_front (lines_of g a) (suc p) left ls has.1) ready0 (subst (λ i. HasTurns g c.turns i seen) come turns) (λ j va c1 w1 b1 s1 seen1 lt kept1 fits1 so low1 left1 turned1.
    let ready1 : Ready g a pushed more_needs c1 w1 b1 s1 = ready_stays g a pushed (max needs (1 + more_needs)) more_needs c c1 w w1 b b1 s s1 (omega arith) ready kept1 in
    reads more_needs j (weight + 2600 + m.over) (Apply2 op (Number t) (Number t) ∷ k) (va ∷ vs) c1 w1 b1 (place_in g a (suc p + length left)) s1 seen1 ready1 turned1 (λ i vb lt2 fit bytes.
    followed g a m op t label needs more_needs pushed d x first_work second_work left placed takes promoted narrow lowest_is n weight p k vs c w b s rest (has_back (lines_of g a) (suc p) left ls has.1) c1 w1 b1 s1 va kept1 fits1 low1 left1 ready1 seen1 turned1 vb fit bytes i (omega (arith, lt, lt2)))))
