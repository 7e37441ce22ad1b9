-- Comparisons of pointers by routines: the left one waits on the software stack while the right one comes.
use Rattle.std.proofs.Common.{◌≡◌, ℕ, suc, ◌+◌, ◌<◌, ◌≤◌, max, List, [], ◌∷◌, ◌++◌, length, pos, Bool, true, false, refl, sym, ap, ◌∙◌, subst, arith, length-append, append_assoc}
use Rattle.std.specs.Prelude.{◌==◌, not, Result, Ok, Err}
use Rattle.std.proofs.Math.Nat.{mod-eq_of_lt}
use Rattle.std.proofs.lemmas.Int.{ints}
use Rattle.c65_base.specs.declared.operators.BinaryOp.{BinaryOp}
use Rattle.c65_ints.specs.declared.types.IntType.{IntType}
use Rattle.c65_ints.specs.declared.types.IntType.TheVariants.{UInt}
use Rattle.c65_ints.specs.Ranges.{InRange, residue}
use Rattle.c65_mach.specs.declared.rows.Op.TheVariants.{Tay}
use Rattle.c65_meaning.specs.Why.{Why}
use Rattle.c65_meaning.specs.Integers.{truth, same_number}
use Rattle.c65_meaning.specs.Store.{Value, Whole, Pointer}
use Rattle.c65_meaning.specs.Items.{Item, Apply2}
use Rattle.c65_meaning.specs.Operators as meaning
use Rattle.c65_meaning.specs.State.{Scene, Running}
use Rattle.c65_meaning.specs.Step.{go_on}
use Rattle.c65_code.specs.declared.line.Line.{Line}
use Rattle.c65_code.specs.declared.line.Line.TheVariants.{Label}
use Rattle.c65_code.specs.declared.routine.Width.TheVariants.{Ax}
use Rattle.c65_code.specs.LineState.{State, sp_of, ax_of}
use Rattle.c65_code.specs.Placement.{IsPlacement}
use Rattle.c65_code.specs.Rows.{number_at}
use Rattle.c65_code.specs.Comes.{Seen}
use Rattle.c65_genwide.specs.Wide.{is_comparison, wide_code}
use Rattle.c65_genload.specs.Conversions.{push_code, waiting}
use Rattle.c65_genload.specs.Words.{implied}
use Rattle.c65_gendirect.specs.declared.relation.Relation.{Relation}
use Rattle.c65_gendirect.specs.declared.relation.Relation.TheVariants.{Less, NotLess, Greater, NotGreater, Equal, Unequal}
use Rattle.c65_genexpr.specs.declared.comparing.Comparing.TheVariants as how
use Rattle.c65_genexpr.specs.declared.operands.Operands.TheVariants.{Pointers}
use Rattle.c65_genexpr.specs.Places.{more}
use Rattle.c65_genexpr.specs.Operands.{behind_code}
use Rattle.c65_genexpr.specs.Comparing.{comparison_by}
use Rattle.c65_genexpr.specs.Wanted.{by_sense, branch_code}
use Rattle.c65_agree_store.specs.Stands.{Placing, Banks, ValueIs}
use Rattle.c65_agree_step.proofs.Ways.{labels_are_passed}
use Rattle.c65_agree_numbers.specs.Words.{word_of}
use Rattle.c65_agree_numbers.proofs.Tests.{equal_words}
use Rattle.c65_agree_state.specs.World.{World, setting_in, Active, lines_of, place_in, HasAt, HasTurns}
use Rattle.c65_agree_state.specs.Follows.{Follows}
use Rattle.c65_agree_state.specs.Exprs.{Ready, Valued, Kept, Done}
use Rattle.c65_agree_state.proofs.Followed.{follows_weaken, steps_earn, ready_is_calm}
use Rattle.c65_agree_state.proofs.Nodes.{has_front, has_back, ready_stays}
use Rattle.c65_agree_state.proofs.Parts.{kept_goes_on}
use Rattle.c65_agree_rows.proofs.Quiet.{nothing_follows}
use Rattle.c65_agree_operate.specs.Manners.{Manner, IsLeft, DoesIn}
use Rattle.c65_agree_operate.proofs.Manners.{left_then, left_scene, left_heavy}
use Rattle.c65_agree_operate.proofs.Routines.{IsPushed, push_leads, number_waits}
use Rattle.c65_agree_operate.proofs.Stacked.{over_pushed}
use Rattle.c65_agree_compare.specs.Branches.{RestOfSettled, SettlesIn}
use Rattle.c65_agree_compare.proofs.Taken.{is_told, is_branch, branch_settles}
use Rattle.c65_agree_compare.proofs.Stacked.{IsCompared, back_leads}
use Rattle.c65_agree_order.specs.Pointers.{on_pointers}
use Rattle.c65_agree_order.specs.Laws.{StackedPointersSettle}
use Rattle.c65_agree_order.proofs.Tells.{tells}
use Rattle.c65_agree_order.proofs.PointerTells.{op_by, op_is, Told, pointers_tell}
use Rattle.c65_agree_order.proofs.Pointers.{word_is}
use Rattle.c65_agree_order.proofs.PointersHeld.{address_stays}

-- ---- addresses as numbers without sign

in_uint : (n : ℕ) → n < 65536 → InRange UInt (pos n)
in_uint n h = record { low = omega (arith, ints); high = omega (arith, ints, h) }

whole_word : (n : ℕ) → n < 65536 → n ≡ word_of UInt (pos n)
whole_word n h = omega (arith, h)

op_compares : (r : Relation) → is_comparison (op_by r) ≡ true
op_compares Less = refl
op_compares NotLess = refl
op_compares Greater = refl
op_compares NotGreater = refl
op_compares Equal = refl
op_compares Unequal = refl

same_numbers : (m n : ℕ) → m < 65536 → n < 65536 → same_number (pos m) (pos n) ≡ (m == n)
same_numbers m n f h = equal_words false Ax (pos m) (pos n) f h ∙ ap (λ i. i == residue 65536 (pos n)) (sym (whole_word m f)) ∙ ap (λ i. m == i) (sym (whole_word n h))

-- what addresses tell, such numbers do
as_numbers : (r : Relation) (m n : ℕ) (y : Bool) → m < 65536 → n < 65536 → tells r false Ax m n ≡ y → meaning.calculated (op_by r) UInt (pos m) (pos n) ≡ Ok (Whole (truth y))
as_numbers Less m n y f h e = ap (λ b. Ok (Whole (truth b))) e
as_numbers NotLess m n y f h e = ap (λ b. Ok (Whole (truth b))) e
as_numbers Greater m n y f h e = ap (λ b. Ok (Whole (truth b))) e
as_numbers NotGreater m n y f h e = ap (λ b. Ok (Whole (truth b))) e
as_numbers Equal m n y f h e = ap (λ b. Ok (Whole (truth b))) (same_numbers m n f h ∙ e)
as_numbers Unequal m n y f h e = ap (λ b. Ok (Whole (truth b))) (ap not (same_numbers m n f h) ∙ e)

-- behind the right pointer stands the routine alone
behind_is : (r : Relation) (count : ℕ) (right_type : IntType) → behind_code (op_by r) (Pointers count) right_type ≡ wide_code (op_by r) UInt
behind_is Less count right_type = refl
behind_is NotLess count right_type = refl
behind_is Greater count right_type = refl
behind_is NotGreater count right_type = refl
behind_is Equal count right_type = refl
behind_is Unequal count right_type = refl

-- ---- over both sides

module _ (g : World) (a : Active) (m : Manner) (r : Relation) (size other : ℕ) (s : Bool) (to own needs more_needs pushed : ℕ) (first second : List Item → List Item) (left right : List Line) (placed : IsPlacement g.code g.place) (heavy : m.light ≡ false) (few : m.over ≤ 1000) where
  abbrev op : BinaryOp
  op = op_by r

  abbrev push : List Line
  push = push_code Ax

  abbrev back : List Line
  back = wide_code op UInt ++ implied Tay ∷ []

  abbrev end : List Line
  end = back ++ branch_code s to

  abbrev body : List Line
  body = left ++ (push ++ (right ++ end))

  abbrev all : List Line
  all = body ++ Label own ∷ []

  -- behind both sides, where the left one began at the state t and the right one at the state s2
  module _ (n weight p : ℕ) (k : List Item) (vs : List Value) (c : Scene) (w : Placing) (b : Banks) (t : State) (has : HasAt (lines_of g a) p all) (rest : RestOfSettled g a m s to n weight (p + length all) k vs c w b t)
      (c1 : Scene) (w1 : Placing) (b1 : Banks) (s1 : State) (va : Value) (done1 : Done g a Valued (Pointer size) c w b t va c1 w1 b1 s1) (left1 : IsLeft m c t c1 s1) (s2 : State) (push2 : IsPushed g a pushed more_needs c1 w1 b1 Ax s1 s2)
      (c3 : Scene) (w3 : Placing) (b3 : Banks) (s3 : State) (vb : Value) (done3 : Done g a Valued (Pointer other) c1 w1 b1 s2 vb c3 w3 b3 s3) (left3 : IsLeft m c1 s2 c3 s3) where
    abbrev at : ℕ
    at = p + length left + length push + length right

    abbrev branch_at : ℕ
    branch_at = at + length back

    label_at : p + length body ≡ suc branch_at
    label_at = omega (arith, length-append left (push ++ (right ++ end)), length-append push (right ++ end), length-append right end, length-append back (branch_code s to))

    label : HasAt (lines_of g a) (suc branch_at) (Label own ∷ [])
    label = subst (λ q. HasAt (lines_of g a) q (Label own ∷ [])) label_at (has_back (lines_of g a) p body (Label own ∷ []) has)

    ends : place_in g a (suc branch_at) ≡ place_in g a (p + length all)
    ends = let e : suc (suc branch_at) ≡ p + length all = omega (arith, label_at, length-append body (Label own ∷ [])) in labels_are_passed (setting_in g) a.symbol (suc branch_at) own label.0 ∙ ap (place_in g a) e

    ready3 : Ready g a (pushed + 2) more_needs c3 w3 b3 s3
    ready3 = ready_stays g a (pushed + 2) more_needs more_needs c1 c3 w1 w3 b1 b3 s2 s3 (omega arith) push2.ready done3.kept

    waited : number_at Ax s3.mem (sp_of s3) ≡ ax_of s1
    waited = number_waits g a pushed more_needs c1 c3 w1 w3 b1 b3 s2 s3 Ax push2.ready done3.kept ∙ push2.word

    kept_to : (y : Bool) (v : State) → IsCompared g a pushed more_needs c3 w3 b3 Ax y s3 v → Kept g a c w b t c3 w3 b3 v
    kept_to y v h = kept_goes_on g a c c1 c3 w w1 w3 b b1 b3 t s1 v done1.kept (over_pushed g a pushed more_needs c1 c3 w1 w3 b1 b3 Ax s1 s2 s3 v push2 done3.kept h.ready h.sp h.mem)

    left_to : (v : State) → IsLeft m c t c3 v
    left_to v = left_then m c c1 c3 t s1 v left1 (left_then m c1 c3 c3 s1 s3 v (left_heavy m c1 c3 s2 s3 s1 s3 heavy left3) (left_scene m c3 s3 v heavy))

    here : ValueIs w1 65536 va (ax_of s1)
    here = word_is size w1 va s1 done1.fits done1.result

    still : ValueIs w3 65536 va (ax_of s1)
    still = address_stays g a (pushed + 2) more_needs size c1 c3 w1 w3 b1 b3 s2 s3 push2.ready done3.kept va (ax_of s1) done1.fits here

    left_few : ax_of s1 < 65536
    left_few = omega (arith, done1.kept.joins.bytes.a, done1.kept.joins.bytes.x)

    right_few : ax_of s3 < 65536
    right_few = omega (arith, done3.kept.joins.bytes.a, done3.kept.joins.bytes.x)

    abbrev more_weight : ℕ
    more_weight = weight + 2344 + 2600 + m.over + 4000

    of_pointers : (o : ℕ) → o < n → (seen : Seen) → HasAt (lines_of g a) at end → HasTurns g c3.turns (place_in g a at) seen → (x : Value) → Told r (ax_of s1) (ax_of s3) x → Follows g o more_weight (Running k (x ∷ vs) c3) (place_in g a at) s3 seen
    of_pointers o lt seen there turned x h =
        let y : Bool = h.truth_is in
        let gives : meaning.calculated op UInt (pos (ax_of s1)) (pos (ax_of s3)) ≡ Ok (Whole (truth y)) = as_numbers r (ax_of s1) (ax_of s3) y left_few right_few h.told in
        let value : Running k (Whole (truth y) ∷ vs) c3 ≡ Running k (x ∷ vs) c3 = ap (λ v. Running k (v ∷ vs) c3) (sym h.is) in
        subst (λ z. Follows g o more_weight z (place_in g a at) s3 seen) value
        (follows_weaken g o (2305 + (2 + (weight + 2700 + m.over))) more_weight (Running k (Whole (truth y) ∷ vs) c3) (place_in g a at) s3 seen (omega arith)
        (back_leads g a op UInt pushed more_needs placed (op_compares r) refl c3 w3 b3 s3 ready3 (pos (ax_of s1)) (pos (ax_of s3)) (truth y) y (waited ∙ whole_word (ax_of s1) left_few) (whole_word (ax_of s3) right_few) (in_uint (ax_of s1) left_few) (in_uint (ax_of s3) right_few) gives refl
        o (2 + (weight + 2700 + m.over)) at c3.turns (Running k (Whole (truth y) ∷ vs) c3) seen (has_front (lines_of g a) at back (branch_code s to) there) turned (λ v after taken turned2.
        branch_settles g a m s to pushed more_needs n weight branch_at (p + length all) ends k vs c w b t rest o lt y c3 w3 b3 v after taken.ready (kept_to y v taken) (left_to v) (by_sense s) (is_branch s to) (has_back (lines_of g a) at back (branch_code s to) there) (is_told s y v taken.z) turned2)))

    stepped : (o : ℕ) → o < n → (seen : Seen) → HasAt (lines_of g a) at end → HasTurns g c3.turns (place_in g a at) seen → (x : Result Value Why) → meaning.binary c3.store op (Pointer size) (Pointer other) va vb ≡ x
        → Follows g o more_weight (go_on x k vs c3) (place_in g a at) s3 seen
    stepped o lt seen there turned (Err why) e = nothing_follows g why o more_weight (place_in g a at) s3 seen
    stepped o lt seen there turned (Ok x) e =
        of_pointers o lt seen there turned x (pointers_tell c3.store w3 s3.mem b3 ready3.joins.stands r size va vb (ax_of s1) (ax_of s3) x (λ live. still) (λ live. word_is other w3 vb s3 done3.fits done3.result) e)

    followed : (j : ℕ) → j ≤ n → (seen : Seen) → HasAt (lines_of g a) at end → HasTurns g c3.turns (place_in g a at) seen → Follows g j (weight + 2344 + 2600 + m.over) (Running (Apply2 op (Pointer size) (Pointer other) ∷ k) (vb ∷ va ∷ vs) c3) (place_in g a at) s3 seen
    followed j le seen there turned =
        steps_earn g j (weight + 2344 + 2600 + m.over) (Apply2 op (Pointer size) (Pointer other)) k (vb ∷ va ∷ vs) c3 (place_in g a at) s3 seen (ready_is_calm g a (pushed + 2) more_needs c3 w3 b3 s3 ready3).calm ready3.joins.output ready3.joins.ended (omega (arith, turned)) (λ o less.
        stepped o (omega (arith, le, less)) seen there turned (meaning.binary c3.store op (Pointer size) (Pointer other) va vb) refl)

  -- two bytes wait while the right side comes
  two_wait : (c : Scene) (w : Placing) (b : Banks) (t : State) → Ready g a (pushed + 2) more_needs c w b t → more pushed (waiting Ax) ≡ pushed + 2
  two_wait c w b t ready = mod-eq_of_lt (omega (arith, ready.sp, ready.joins.top))

  settles : DoesIn g a m Valued (Pointer size) first needs pushed left → DoesIn g a m Valued (Pointer other) second more_needs (more pushed (waiting Ax)) right
      → SettlesIn g a m s to (on_pointers op size other first second) (max needs (1 + more_needs)) pushed all
  settles before behind n weight p k vs c w b t seen has ready turns rest =
      let lines = lines_of g a in
      let has0 : HasAt lines p body = has_front lines p body (Label own ∷ []) has in
      let has1 : HasAt lines (p + length left) (push ++ (right ++ end)) = has_back lines p left (push ++ (right ++ end)) has0 in
      let has2 : HasAt lines (p + length left + length push) (right ++ end) = has_back lines (p + length left) push (right ++ end) has1 in
      let ready0 : Ready g a pushed needs c w b t = record { joins = ready.joins; sp = ready.sp; room = omega (arith, ready.room); none_pushed = ready.none_pushed } in
      before n weight p (second (Apply2 op (Pointer size) (Pointer other) ∷ k)) vs c w b t seen (has_front lines p left (push ++ (right ++ end)) has0) ready0 turns (λ j va c1 w1 b1 s1 seen1 lt done1 left1 turned1.
      let ready1 : Ready g a pushed (1 + more_needs) c1 w1 b1 s1 = ready_stays g a pushed (max needs (1 + more_needs)) (1 + more_needs) c c1 w w1 b b1 t s1 (omega arith) ready done1.kept in
      follows_weaken g j (256 + (weight + 2344)) (weight + 2600 + m.over) (Running (second (Apply2 op (Pointer size) (Pointer other) ∷ k)) (va ∷ vs) c1) (place_in g a (p + length left)) s1 seen1 (omega arith)
      (push_leads g a pushed more_needs c1 w1 b1 s1 placed ready1 Ax j (weight + 2344) (p + length left) c1.turns (Running (second (Apply2 op (Pointer size) (Pointer other) ∷ k)) (va ∷ vs) c1) seen1 (has_front lines (p + length left) push (right ++ end) has1) turned1 (λ s2 seen2 push2 turned2.
      let ready2 : Ready g a (more pushed (waiting Ax)) more_needs c1 w1 b1 s2 = subst (λ q. Ready g a q more_needs c1 w1 b1 s2) (sym (two_wait c1 w1 b1 s2 push2.ready)) push2.ready in
      behind j (weight + 2344) (p + length left + length push) (Apply2 op (Pointer size) (Pointer other) ∷ k) (va ∷ vs) c1 w1 b1 s2 seen2 (has_front lines (p + length left + length push) right end has2) ready2 turned2 (λ i vb c3 w3 b3 s3 seen3 lt3 done3 left3 turned3.
      followed n weight p k vs c w b t has rest c1 w1 b1 s1 va done1 left1 s2 push2 c3 w3 b3 s3 vb done3 left3 i (omega (arith, lt, lt3)) seen3 (has_back lines (p + length left + length push) right end has2) turned3))))

  -- the generator's lines are these
  lines_are : (count : ℕ) (right_type : IntType) → all ≡ comparison_by how.Stacked op (Pointers count) right_type s to own left right
  lines_are count right_type =
      ap (λ ls. (left ++ (push ++ (right ++ ls))) ++ Label own ∷ []) (append_assoc (wide_code op UInt) (implied Tay ∷ []) (branch_code s to))
      ∙ ap (λ ls. (left ++ (push ++ (right ++ (ls ++ (implied Tay ∷ branch_code s to))))) ++ Label own ∷ []) (sym (behind_is r count right_type))

pub stacked_pointers_settle : StackedPointersSettle
stacked_pointers_settle g a m op r size other count right_type s to own needs more_needs pushed first second left right placed heavy few by_op before behind =
    subst (λ o. SettlesIn g a m s to (on_pointers o size other first second) (max needs (1 + more_needs)) pushed (comparison_by how.Stacked o (Pointers count) right_type s to own left right)) (sym (op_is op r by_op))
    (subst (SettlesIn g a m s to (on_pointers (op_by r) size other first second) (max needs (1 + more_needs)) pushed) (lines_are g a m r size other s to own needs more_needs pushed first second left right placed heavy few count right_type)
    (settles g a m r size other s to own needs more_needs pushed first second left right placed heavy few before behind))
