-- Comparisons of pointers.
use Rattle.std.proofs.Common.{◌≡◌, ℕ, ◌+◌, ◌/◌, ◌%◌, ◌<◌, ◌≤◌, max, List, ◌∷◌, ◌++◌, length, Bool, false, Option, Some, None, refl, sym, ap, ◌∙◌, subst, arith, length-append}
use Rattle.std.specs.Prelude.{Result, Ok, Err}
use Rattle.std.specs.Bool.{beq}
use Rattle.c65_base.specs.declared.operators.BinaryOp.{BinaryOp}
use Rattle.c65_meaning.specs.Why.{Why}
use Rattle.c65_meaning.specs.Integers.{truth}
use Rattle.c65_meaning.specs.Store.{Value, Whole, Null, Place, Opaque, Cells, NoValue, Pointer}
use Rattle.c65_meaning.specs.Items.{Item, Apply2}
use Rattle.c65_meaning.specs.Operators as meaning
use Rattle.c65_meaning.specs.State.{Scene, Running}
use Rattle.c65_meaning.specs.Step.{go_on}
use Rattle.c65_code.specs.declared.line.Line.{Line}
use Rattle.c65_code.specs.declared.routine.Width.TheVariants.{Ax}
use Rattle.c65_code.specs.LineState.{State, ax_of}
use Rattle.c65_code.specs.Placement.{IsPlacement}
use Rattle.c65_code.specs.Comes.{Seen}
use Rattle.c65_gendirect.specs.declared.bytes.OperandByte.{OperandByte}
use Rattle.c65_gendirect.specs.declared.direct.Direct.{Direct}
use Rattle.c65_gendirect.specs.declared.relation.Relation.{Relation}
use Rattle.c65_gendirect.specs.declared.compare.Sides.TheVariants.{Word}
use Rattle.c65_gendirect.specs.Bytes.{byte_of as operand_of}
use Rattle.c65_gendirect.specs.Compare.{relation_of, mirrored, compare_code}
use Rattle.c65_genexpr.specs.Direct.{both_bytes, sides_of}
use Rattle.c65_genexpr.specs.Comparing.{relation_by}
use Rattle.c65_agree_store.specs.Stands.{Placing, Banks, ValueIs}
use Rattle.c65_agree_state.specs.World.{World, Active, lines_of, place_in, HasAt, HasTurns, HasBranched}
use Rattle.c65_agree_state.specs.Follows.{Follows}
use Rattle.c65_agree_state.specs.Exprs.{Ready, Valued, MayFit, ResultIs, Kept}
use Rattle.c65_agree_state.proofs.Followed.{follows_weaken, steps_earn, ready_is_calm}
use Rattle.c65_agree_state.proofs.Nodes.{has_front, has_back, ready_stays}
use Rattle.c65_agree_state.proofs.Parts.{kept_goes_on}
use Rattle.c65_agree_rows.proofs.Quiet.{nothing_follows}
use Rattle.c65_agree_direct.specs.Operands.{byte_in, IsOfLive, HasBytes}
use Rattle.c65_agree_operate.specs.Manners.{Manner, IsLeft}
use Rattle.c65_agree_operate.proofs.Manners.{left_then, left_held}
use Rattle.c65_agree_operate.proofs.Exact.{registers_kept, registers_held}
use Rattle.c65_agree_operate_bytes.proofs.DirectLefts.{less_left}
use Rattle.c65_agree_compare.specs.Branches.{end_of, RestOfSettled}
use Rattle.c65_agree_compare.proofs.Ways.{LeadsBy}
use Rattle.c65_agree_compare.proofs.Equal.{OnlyRegs}
use Rattle.c65_agree_order.specs.Laws.{PointersSettle, PointersBehindSettle}
use Rattle.c65_agree_order.proofs.Tells.{tells, sense_tells, mirrored_tells}
use Rattle.c65_agree_order.proofs.Wholes.{number_at, IsReadAs, whole_leads}
use Rattle.c65_agree_order.proofs.PointerTells.{op_is, Told, pointers_tell}

-- ---- the words of pointers

-- that of a pointer in AX
pub word_is : (size : ℕ) (w : Placing) (v : Value) (u : State) → MayFit Valued (Pointer size) v → ResultIs Valued w Ax v u → ValueIs w 65536 v (ax_of u)
word_is size w Null u fit is = is
word_is size w (Place b o) u fit is = is
word_is size w Opaque u fit is = is
word_is size w NoValue u fit is = is
word_is size w (Whole z) u fit is = absurd fit
word_is size w (Cells xs) u fit is = absurd fit

record ArePair (x y : Option OperandByte) (low high : OperandByte) : Type 0 where
  first : x ≡ Some low
  second : y ≡ Some high

pair_is : (x y : Option OperandByte) (low high : OperandByte) → both_bytes x y ≡ Some (Word low high) → ArePair x y low high
pair_is (Some l) (Some h) low high e = let same : Word l h ≡ Word low high = cc in record { first = cc; second = cc }
pair_is (Some l) None low high e = absurd (cc)
pair_is None y low high e = absurd (cc)

-- that of a pointer that is read
pub record IsWord (g : World) (c : Scene) (w : Placing) (u : State) (v : Value) (low high : OperandByte) : Type 0 where
  pub read : IsReadAs g u (Word low high) (number_at g u (Word low high))
  pub is : IsOfLive c.store v → ValueIs w 65536 v (number_at g u (Word low high))

pub word_read : (g : World) (c : Scene) (w : Placing) (u : State) (v : Value) (d : Direct) (low high : OperandByte) → sides_of Ax d ≡ Some (Word low high) → HasBytes g c.store w u Ax d v → IsWord g c w u v low high
word_read g c w u v d low high pair bytes =
    let two = pair_is (operand_of d 0) (operand_of d 1) low high pair in
    let one = bytes.bytes 0 low (omega arith) two.first in
    let last = bytes.bytes 1 high (omega arith) two.second in
    let low_byte : byte_in g u low ≡ bytes.word % 256 = one.1 in
    let high_byte : byte_in g u high ≡ bytes.word / 256 % 256 = last.1 in
    record {
      read = record { may = (one.0, last.0, omega (arith, low_byte), omega (arith, high_byte)); is = refl };
      is = λ live. (let few : bytes.word < 65536 = bytes.fits live in let same : bytes.word ≡ number_at g u (Word low high) = omega (arith, few, low_byte, high_byte) in subst (ValueIs w 65536 v) same bytes.is);
    }

-- ---- the step of a comparison behind both sides

-- the sides began at the state t, and both values are there at the state u
module _ (g : World) (a : Active) (m : Manner) (op : BinaryOp) (r : Relation) (size other : ℕ) (s : Bool) (to : ℕ) (placed : IsPlacement g.code g.place) (by_op : relation_of op ≡ Some r) (pushed needs n weight end at : ℕ) (ls : List Line) (ends : at + length ls ≡ end) (k : List Item) (vs : List Value) (c : Scene) (w : Placing) (b : Banks) (t : State)
    (rest : RestOfSettled g a m s to n weight end k vs c w b t) (has : HasAt (lines_of g a) at ls) (c2 : Scene) (w2 : Placing) (b2 : Banks) (u : State) (ready : Ready g a pushed needs c2 w2 b2 u) (kept : Kept g a c w b t c2 w2 b2 u) (left : IsLeft m c t c2 u)
    (va vb : Value) (mw nw : ℕ) (is : IsOfLive c2.store va → ValueIs w2 65536 va mw) (is2 : IsOfLive c2.store vb → ValueIs w2 65536 vb nw)
    (leads : (y : Bool) → tells (relation_by s r) false Ax mw nw ≡ y → LeadsBy g a ls 60 to y u (OnlyRegs u))
    (seen : Seen) (turned : HasTurns g c2.turns (place_in g a at) seen) (more : ℕ) (enough : weight + m.over ≤ more) where
  of_pointers : (o : ℕ) → o < n → (x : Value) → Told r mw nw x → Follows g o (more + 4000) (Running k (x ∷ vs) c2) (place_in g a at) u seen
  of_pointers o lt x h =
      let y : Bool = h.truth_is in
      let value : Running k (Whole (truth y) ∷ vs) c2 ≡ Running k (x ∷ vs) c2 = ap (λ v. Running k (v ∷ vs) c2) (sym h.is) in
      subst (λ z. Follows g o (more + 4000) z (place_in g a at) u seen) value
      (follows_weaken g o (60 + (weight + 2700 + m.over)) (more + 4000) (Running k (Whole (truth y) ∷ vs) c2) (place_in g a at) u seen (omega (arith, enough))
      (leads (beq y s) (sense_tells s r false Ax mw nw y h.told) o (weight + 2700 + m.over) at c2.turns (Running k (Whole (truth y) ∷ vs) c2) seen has turned (λ x2 after only come.
      let all = kept_goes_on g a c c2 c2 w w2 w2 b b2 b2 t u x2 kept (registers_kept g a pushed needs c2 w2 b2 u x2 placed ready only.0 only.1) in
      let gone = left_then m c c2 c2 t u x2 left (left_held m c2 u x2 (registers_held u x2 only.0)) in
      subst (λ q. Follows g o (weight + 2700 + m.over) (Running k (Whole (truth y) ∷ vs) c2) (place_in g a (end_of g a (beq y s) to q)) x2 after) (sym ends)
      (rest o y c2 w2 b2 x2 after lt all gone (subst (λ q. HasBranched g (beq y s) c2.turns (place_in g a (end_of g a (beq y s) to q)) after) ends come)))))

  stepped : (o : ℕ) → o < n → (x : Result Value Why) → meaning.binary c2.store op (Pointer size) (Pointer other) va vb ≡ x → Follows g o (more + 4000) (go_on x k vs c2) (place_in g a at) u seen
  stepped o lt (Err why) e = nothing_follows g why o (more + 4000) (place_in g a at) u seen
  stepped o lt (Ok x) e =
      of_pointers o lt x (pointers_tell c2.store w2 u.mem b2 ready.joins.stands r size va vb mw nw x is is2 (subst (λ z. meaning.on_pointers c2.store z size va vb ≡ Ok x) (op_is op r by_op) e))

  pub pointers_follow : (i : ℕ) → i ≤ n → Follows g i more (Running (Apply2 op (Pointer size) (Pointer other) ∷ k) (vb ∷ va ∷ vs) c2) (place_in g a at) u seen
  pointers_follow i le =
      steps_earn g i more (Apply2 op (Pointer size) (Pointer other)) k (vb ∷ va ∷ vs) c2 (place_in g a at) u seen (ready_is_calm g a pushed needs c2 w2 b2 u ready).calm ready.joins.output ready.joins.ended (omega (arith, turned)) (λ o less.
      stepped o (omega (arith, le, less)) (meaning.binary c2.store op (Pointer size) (Pointer other) va vb) refl)

-- ---- the right side is read

pub pointers_settle : PointersSettle
pointers_settle g a m op r size other d low high operands right_type s to own needs more_needs pushed first second left right placed labels by_op pair before reads n weight p k vs c w b t seen has ready turns rest =
    let end : List Line = compare_code (relation_by s r) false (Word low high) own to in
    let ready0 : Ready g a pushed needs c w b t = record { joins = ready.joins; sp = ready.sp; room = omega (arith, ready.room); none_pushed = ready.none_pushed } in
    let ends : p + length left + length end ≡ p + length (left ++ end) = omega (arith, length-append left end) in
    before n weight p (second (Apply2 op (Pointer size) (Pointer other) ∷ k)) vs c w b t seen (has_front (lines_of g a) p left end has) ready0 turns (λ j va c1 w1 b1 s1 seen1 lt done1 left1 turned1.
    let ready1 : Ready g a pushed more_needs c1 w1 b1 s1 = ready_stays g a pushed (max needs (1 + more_needs)) more_needs c c1 w w1 b b1 t s1 (omega arith) ready done1.kept in
    reads more_needs j (weight + 2600 + m.over) (Apply2 op (Pointer size) (Pointer other) ∷ k) (va ∷ vs) c1 w1 b1 (place_in g a (p + length left)) s1 seen1 ready1 turned1 (λ i vb lt2 fit bytes.
    let word = word_read g c1 w1 s1 vb d low high pair bytes in
    let here = word_is size w1 va s1 done1.fits done1.result in
    pointers_follow g a m op r size other s to placed by_op pushed more_needs n weight (p + length (left ++ end)) (p + length left) end ends k vs c w b t rest (has_back (lines_of g a) p left end has) c1 w1 b1 s1 ready1 done1.kept left1 va vb (ax_of s1) (number_at g s1 (Word low high)) (λ live. here) word.is
    (λ y e. whole_leads g a own to pushed more_needs placed labels (relation_by s r) false Ax (Word low high) c1 w1 b1 s1 (ax_of s1) (number_at g s1 (Word low high)) y ready1 tt refl word.read e)
    seen1 turned1 (weight + 2600 + m.over + 4000) (omega arith) i (omega (arith, lt, lt2))))

-- ---- the left side is read

pub pointers_behind_settle : PointersBehindSettle
pointers_behind_settle g a m pure op r size other d low high operands right_type s to own needs more_needs pushed first second left right placed labels by_op pair wanted reads behind n weight p k vs c w b t seen has ready turns rest =
    let end : List Line = compare_code (mirrored (relation_by s r)) false (Word low high) own to in
    let ready1 : Ready g a pushed more_needs c w b t = record { joins = ready.joins; sp = ready.sp; room = omega (arith, ready.room); none_pushed = ready.none_pushed } in
    let ends : p + length right + length end ≡ p + length (right ++ end) = omega (arith, length-append right end) in
    reads more_needs n weight (second (Apply2 op (Pointer size) (Pointer other) ∷ k)) vs c w b (place_in g a p) t seen ready1 turns (λ j va lt fit told.
    follows_weaken g j weight (weight + 4000) (Running (second (Apply2 op (Pointer size) (Pointer other) ∷ k)) (va ∷ vs) c) (place_in g a p) t seen (omega arith)
    (behind j weight p (Apply2 op (Pointer size) (Pointer other) ∷ k) (va ∷ vs) c w b t seen (has_front (lines_of g a) p right end has) ready1 turns (λ i vb c3 w3 b3 s3 seen3 lt3 done3 left3 turned3.
    let ready3 : Ready g a pushed more_needs c3 w3 b3 s3 = ready_stays g a pushed more_needs more_needs c c3 w w3 b b3 t s3 (omega arith) ready1 done3.kept in
    let later = told more_needs c3 w3 b3 s3 left3.scene done3.kept.grows ready3 in
    let word = word_read g c3 w3 s3 va d low high pair later in
    let here = word_is other w3 vb s3 done3.fits done3.result in
    pointers_follow g a m op r size other s to placed by_op pushed more_needs n weight (p + length (right ++ end)) (p + length right) end ends k vs c w b t rest (has_back (lines_of g a) p right end has) c3 w3 b3 s3 ready3 done3.kept (less_left m pure c c3 t s3 wanted left3) va vb (number_at g s3 (Word low high)) (ax_of s3) word.is (λ live. here)
    (λ y e. whole_leads g a own to pushed more_needs placed labels (mirrored (relation_by s r)) false Ax (Word low high) c3 w3 b3 s3 (ax_of s3) (number_at g s3 (Word low high)) y ready3 tt refl word.read (mirrored_tells (relation_by s r) false Ax (number_at g s3 (Word low high)) (ax_of s3) ∙ e))
    seen3 turned3 (weight + 2600 + m.over) (omega arith) i (omega (arith, lt, lt3)))))
