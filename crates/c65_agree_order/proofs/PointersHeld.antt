-- Comparisons of pointers, of which the left one waits in ptr2.
use Rattle.std.proofs.Common.{◌≡◌, ℕ, ◌+◌, ◌≤◌, max, List, ◌∷◌, ◌++◌, length, Bool, true, false, refl, sym, ◌∙◌, subst, arith, length-append, Some}
use Rattle.c65_base.specs.declared.operators.BinaryOp.{BinaryOp}
use Rattle.c65_meaning.specs.Store.{Value, Whole, Null, Place, Opaque, Cells, NoValue, Pointer}
use Rattle.c65_meaning.specs.Items.{Item, Apply2}
use Rattle.c65_meaning.specs.State.{Scene, Running}
use Rattle.c65_code.specs.declared.line.Line.{Line}
use Rattle.c65_code.specs.declared.routine.Width.TheVariants.{Ax}
use Rattle.c65_code.specs.LineState.{State, ax_of, IsBytes}
use Rattle.c65_code.specs.Placement.{IsPlacement}
use Rattle.c65_code.specs.Comes.{Seen}
use Rattle.c65_gendirect.specs.declared.relation.Relation.{Relation}
use Rattle.c65_gendirect.specs.declared.compare.Sides.TheVariants.{Word}
use Rattle.c65_gendirect.specs.Compare.{relation_of, mirrored, compare_code}
use Rattle.c65_genexpr.specs.Comparing.{relation_by}
use Rattle.c65_genexpr.specs.Held.{held_low, held_high, keep_code}
use Rattle.c65_agree_store.specs.Stands.{At, Placing, Banks, ValueIs}
use Rattle.c65_agree_state.specs.World.{World, Active, lines_of, place_in, IsPlaced, HasAt, HasTurns}
use Rattle.c65_agree_state.specs.Follows.{Follows}
use Rattle.c65_agree_state.specs.Exprs.{Ready, Valued, MayFit, Kept, Done}
use Rattle.c65_agree_state.proofs.Followed.{follows_weaken}
use Rattle.c65_agree_state.proofs.Nodes.{has_front, has_back, ready_stays}
use Rattle.c65_agree_state.proofs.Parts.{kept_goes_on}
use Rattle.c65_agree_operate.specs.Manners.{Manner, IsHeld, IsLeft, DoesIn}
use Rattle.c65_agree_operate.proofs.Manners.{left_then, dark}
use Rattle.c65_agree_operate_bytes.proofs.Held.{waiting, keep_leads, kept_waiting, ready_waiting}
use Rattle.c65_agree_compare.specs.Branches.{RestOfSettled, SettlesIn}
use Rattle.c65_agree_order.specs.Pointers.{on_pointers}
use Rattle.c65_agree_order.specs.Laws.{HeldPointersSettle}
use Rattle.c65_agree_order.proofs.Tells.{mirrored_tells}
use Rattle.c65_agree_order.proofs.Wholes.{IsReadAs, whole_leads}
use Rattle.c65_agree_order.proofs.Pointers.{word_is, pointers_follow}

-- ---- a place behind more lines

module _ (g : World) (a : Active) (pushed needs size : ℕ) (c c2 : Scene) (w w2 : Placing) (k k2 : Banks) (t u : State) (ready : Ready g a pushed needs c w k t) (kept : Kept g a c w k t c2 w2 k2 u) where
  -- its address stays
  pub address_stays : (v : Value) (n : ℕ) → MayFit Valued (Pointer size) v → ValueIs w 65536 v n → ValueIs w2 65536 v n
  address_stays Null n fit is = is
  address_stays (Place b o) n fit is = (is.0, kept.grows b (At is.0) is.1, is.2)
  address_stays Opaque n fit is = tt
  address_stays NoValue n fit is = tt
  address_stays (Whole z) n fit is = absurd fit
  address_stays (Cells xs) n fit is = absurd fit

-- ---- the left side waits in ptr2

module _ (g : World) (a : Active) (m : Manner) (op : BinaryOp) (r : Relation) (size other : ℕ) (s : Bool) (to own needs more_needs pushed : ℕ) (first second : List Item → List Item) (left right : List Line) (placed : IsPlacement g.code g.place) (labels : IsPlaced (lines_of g a)) (heavy : m.light ≡ false) (by_op : relation_of op ≡ Some r) where
  abbrev lit : Manner
  lit = record m { light = true }

  abbrev end : List Line
  end = compare_code (mirrored (relation_by s r)) false (Word held_low held_high) own to

  abbrev all : List Line
  all = left ++ (keep_code ++ (right ++ end))

  module _ (n weight p : ℕ) (k : List Item) (vs : List Value) (c : Scene) (w : Placing) (b : Banks) (u : State) (rest : RestOfSettled g a m s to n weight (p + length all) k vs c w b u)
      (c1 : Scene) (w1 : Placing) (b1 : Banks) (s1 : State) (va : Value) (done1 : Done g a Valued (Pointer size) c w b u va c1 w1 b1 s1) (left1 : IsLeft m c u c1 s1) (ready1 : Ready g a pushed more_needs c1 w1 b1 s1) (bytes : IsBytes (waiting s1))
      (c3 : Scene) (w3 : Placing) (b3 : Banks) (s3 : State) (vb : Value) (done3 : Done g a Valued (Pointer other) c1 w1 b1 (waiting s1) vb c3 w3 b3 s3) (left3 : IsLeft lit c1 (waiting s1) c3 s3) where
    abbrev at : ℕ
    at = p + length left + length keep_code + length right

    ends : at + length end ≡ p + length all
    ends = omega (arith, length-append left (keep_code ++ (right ++ end)), length-append keep_code (right ++ end), length-append right end)

    ready2 : Ready g a pushed more_needs c1 w1 b1 (waiting s1)
    ready2 = ready_waiting g a pushed more_needs c1 w1 b1 s1 placed ready1 bytes

    ready3 : Ready g a pushed more_needs c3 w3 b3 s3
    ready3 = ready_stays g a pushed more_needs more_needs c1 c3 w1 w3 b1 b3 (waiting s1) s3 (omega arith) ready2 done3.kept

    kept3 : Kept g a c w b u c3 w3 b3 s3
    kept3 = kept_goes_on g a c c1 c3 w w1 w3 b b1 b3 u s1 s3 done1.kept (kept_goes_on g a c1 c1 c3 w1 w1 w3 b1 b1 b3 s1 (waiting s1) s3 (kept_waiting g a pushed more_needs c1 w1 b1 s1 placed ready1 bytes) done3.kept)

    left_both : IsLeft m c u c3 s3
    left_both =
        let scene : IsLeft m c1 s1 c3 s3 = record { scene = left3.scene; held = dark m.light (IsHeld s1 s3) heavy } in
        left_then m c c1 c3 u s1 s3 left1 scene

    read : IsReadAs g s3 (Word held_low held_high) (ax_of s1)
    read =
        let low : s3.zp 10 ≡ s1.regs.a = left3.held.low in
        let high : s3.zp 11 ≡ s1.regs.x = left3.held.high in
        let small = ready1.joins.bytes in
        record { may = (omega arith, omega arith, omega (arith, low, small.a), omega (arith, high, small.x)); is = omega (arith, low, high) }

    followed : (i : ℕ) → i ≤ n → (seen : Seen) → HasAt (lines_of g a) at end → HasTurns g c3.turns (place_in g a at) seen → Follows g i (weight + 2598 + 2600 + m.over) (Running (Apply2 op (Pointer size) (Pointer other) ∷ k) (vb ∷ va ∷ vs) c3) (place_in g a at) s3 seen
    followed i le seen has turned =
        let here : ValueIs w1 65536 va (ax_of s1) = word_is size w1 va s1 done1.fits done1.result in
        let still : ValueIs w3 65536 va (ax_of s1) = address_stays g a pushed more_needs size c1 c3 w1 w3 b1 b3 (waiting s1) s3 ready2 done3.kept va (ax_of s1) done1.fits here in
        let there : ValueIs w3 65536 vb (ax_of s3) = word_is other w3 vb s3 done3.fits done3.result in
        pointers_follow g a m op r size other s to placed by_op pushed more_needs n weight (p + length all) at end ends k vs c w b u rest has c3 w3 b3 s3 ready3 kept3 left_both va vb (ax_of s1) (ax_of s3) (λ live. still) (λ live. there)
        (λ y e. whole_leads g a own to pushed more_needs placed labels (mirrored (relation_by s r)) false Ax (Word held_low held_high) c3 w3 b3 s3 (ax_of s3) (ax_of s1) y ready3 tt refl read (mirrored_tells (relation_by s r) false Ax (ax_of s1) (ax_of s3) ∙ e))
        seen turned (weight + 2598 + 2600 + m.over) (omega arith) i le

  held_settles : DoesIn g a m Valued (Pointer size) first needs pushed left → DoesIn g a lit Valued (Pointer other) second more_needs pushed right → SettlesIn g a m s to (on_pointers op size other first second) (max needs (1 + more_needs)) pushed all
  held_settles before behind n weight p k vs c w b u seen has ready turns rest =
      let lines = lines_of g a in
      let has1 : HasAt lines (p + length left) (keep_code ++ (right ++ end)) = has_back lines p left (keep_code ++ (right ++ end)) has in
      let has2 : HasAt lines (p + length left + length keep_code) (right ++ end) = has_back lines (p + length left) keep_code (right ++ end) has1 in
      let ready0 : Ready g a pushed needs c w b u = record { joins = ready.joins; sp = ready.sp; room = omega (arith, ready.room); none_pushed = ready.none_pushed } in
      before n weight p (second (Apply2 op (Pointer size) (Pointer other) ∷ k)) vs c w b u seen (has_front lines p left (keep_code ++ (right ++ end)) has) ready0 turns (λ j va c1 w1 b1 s1 seen1 lt done1 left1 turned1.
      let ready1 : Ready g a pushed more_needs c1 w1 b1 s1 = ready_stays g a pushed (max needs (1 + more_needs)) more_needs c c1 w w1 b b1 u s1 (omega arith) ready done1.kept in
      follows_weaken g j (2 + (weight + 2598)) (weight + 2600 + m.over) (Running (second (Apply2 op (Pointer size) (Pointer other) ∷ k)) (va ∷ vs) c1) (place_in g a (p + length left)) s1 seen1 (omega arith)
      (keep_leads g a pushed more_needs c1 w1 b1 s1 placed ready1 j (weight + 2598) (p + length left) c1.turns (Running (second (Apply2 op (Pointer size) (Pointer other) ∷ k)) (va ∷ vs) c1) seen1 (has_front lines (p + length left) keep_code (right ++ end) has1) turned1 (λ s2 seen2 kept2 turned2.
      let bytes : IsBytes (waiting s1) = subst IsBytes kept2.0 kept2.1 in
      subst (λ z. Follows g j (weight + 2598) (Running (second (Apply2 op (Pointer size) (Pointer other) ∷ k)) (va ∷ vs) c1) (place_in g a (p + length left + length keep_code)) z seen2) (sym kept2.0)
      (behind j (weight + 2598) (p + length left + length keep_code) (Apply2 op (Pointer size) (Pointer other) ∷ k) (va ∷ vs) c1 w1 b1 (waiting s1) seen2 (has_front lines (p + length left + length keep_code) right end has2) (ready_waiting g a pushed more_needs c1 w1 b1 s1 placed ready1 bytes) turned2 (λ i vb c3 w3 b3 s3 seen3 lt3 done3 left3 turned3.
      followed n weight p k vs c w b u rest c1 w1 b1 s1 va done1 left1 ready1 bytes c3 w3 b3 s3 vb done3 left3 i (omega (arith, lt, lt3)) seen3 (has_back lines (p + length left + length keep_code) right end has2) turned3)))))

pub held_pointers_settle : HeldPointersSettle
held_pointers_settle g a m op r size other operands right_type s to own needs more_needs pushed first second left right placed labels heavy by_op before behind = held_settles g a m op r size other s to own needs more_needs pushed first second left right placed labels heavy by_op before behind
