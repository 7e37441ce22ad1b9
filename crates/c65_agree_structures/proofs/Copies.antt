-- Assignment of structures and unions: the left address waits while the right one comes.
use Rattle.std.proofs.Common.{◌≡◌, ℕ, ◌+◌, ◌<◌, ◌≤◌, max, List, ◌∷◌, ◌++◌, length, None, Bool, refl, sym, ap, ◌∙◌, subst, arith, length-append}
use Rattle.std.specs.Prelude.{if◌then◌else◌}
use Rattle.std.proofs.Math.Nat.{mod-eq_of_lt}
use Rattle.c65_ctype.specs.Trees.{Ty, type_in}
use Rattle.c65_ctype.specs.Sizes.{size_of}
use Rattle.c65_ctype.specs.Views.{types_of}
use Rattle.c65_csem.specs.declared.items.Parts.{Parts}
use Rattle.c65_csem.specs.Trees.{node, copy}
use Rattle.c65_csem_need.specs.Needs.{need}
use Rattle.c65_meaning.specs.Store.{Value, Whole, Null, Place, Opaque, Cells, NoValue, Shape, Area}
use Rattle.c65_meaning.specs.Items.{Item, Carry, plan}
use Rattle.c65_meaning.specs.Shapes.{shape_of}
use Rattle.c65_meaning.specs.State.{Scene, Running}
use Rattle.c65_code.specs.declared.line.Line.{Line}
use Rattle.c65_code.specs.declared.routine.Width.TheVariants.{Ax}
use Rattle.c65_code.specs.declared.routine.Routine.TheVariants.{PushAx}
use Rattle.c65_code.specs.LineState.{State, word_at, sp_of, ax_of}
use Rattle.c65_code.specs.Placement.{IsPlacement}
use Rattle.c65_code.specs.Comes.{Seen}
use Rattle.c65_genframe.specs.Sizes.{bytes_or}
use Rattle.c65_genframe.specs.Frames.{type_bytes}
use Rattle.c65_genload.specs.Conversions.{push_code}
use Rattle.c65_genload.specs.Stores.{copy_code}
use Rattle.c65_genexpr.specs.declared.wanted.Wanted.TheVariants as wanted
use Rattle.c65_genexpr.specs.Places.{more}
use Rattle.c65_genexpr.specs.Uses.{uses}
use Rattle.c65_genexpr.specs.Code.{expr_code}
use Rattle.c65_agree_store.specs.Stands.{Placing, Banks, ValueIs}
use Rattle.c65_agree_state.specs.World.{World, unit_in, Active, lines_of, place_in, HasAt, HasTurns}
use Rattle.c65_agree_state.specs.Follows.{Follows}
use Rattle.c65_agree_state.specs.Exprs.{Ready, Kept, Yield, Valued, Placed, yield_of, IsPlaceValue, Done, Rest, Does, shape_in}
use Rattle.c65_agree_state.proofs.Followed.{follows_weaken}
use Rattle.c65_agree_state.proofs.Nodes.{has_front, has_back, ready_stays}
use Rattle.c65_agree_state.proofs.Parts.{kept_goes_on}
use Rattle.c65_agree_rows.specs.Rows.{Word}
use Rattle.c65_agree_rows.specs.Laws.{IsReadyPushed}
use Rattle.c65_agree_rows.proofs.Families.{pushes_run}
use Rattle.c65_agree_put.proofs.Puts.{waiting_is_kept}
use Rattle.c65_agree_load.proofs.Kept.{runs_lead}
use Rattle.c65_agree_operate.proofs.Routines.{number_waits}
use Rattle.c65_agree_copy.specs.Copies.{AreAtHand}
use Rattle.c65_agree_copy.proofs.Followed.{copies_are_followed}
use Rattle.c65_agree_structures.specs.Copies.{PlacesHaveAddresses, CopiesDo}
use Rattle.c65_agree_structures.proofs.Sizes.{tag_bytes, tag_shape}

-- ---- places

-- a value of a structure or union that has an address
record IsAt (w : Placing) (v : Value) (t : State) : Type 0 where
  block : ℕ
  offset : ℕ
  is : v ≡ Place block offset
  address : ValueIs w 65536 (Place block offset) (ax_of t)

placed_at : (w : Placing) (v : Value) (t : State) → IsPlaceValue v → ValueIs w 65536 v (ax_of t) → IsAt w v t
placed_at w (Place b o) t fits is = record { block = b; offset = o; is = refl; address = is }
placed_at w (Whole z) t fits is = absurd fits
placed_at w Null t fits is = absurd fits
placed_at w Opaque t fits is = absurd fits
placed_at w (Cells xs) t fits is = absurd fits
placed_at w NoValue t fits is = absurd fits

module _ (g : World) (a : Active) (placed : IsPlacement g.code g.place) (size : ℕ) (few : size < 65536) (left_needs right_needs pushed : ℕ) (first second : List Item → List Item) (f h : Shape) (left right : List Line) where
  abbrev push : List Line
  push = push_code Ax

  abbrev end : List Line
  end = copy_code size

  abbrev all : List Line
  all = left ++ (push ++ (right ++ end))

  module _ (n weight p : ℕ) (k : List Item) (vs : List Value) (c : Scene) (w : Placing) (b : Banks) (s : State) (rest : Rest g a Placed (Area size) n weight k vs (p + length all) c w b s)
      (c1 : Scene) (w1 : Placing) (b1 : Banks) (s1 : State) (left_value : Value) (done1 : Done g a Placed f c w b s left_value c1 w1 b1 s1) (s2 : State) (push2 : IsReadyPushed g a pushed right_needs c1 w1 b1 Word s1 s2)
      (c3 : Scene) (w3 : Placing) (b3 : Banks) (s3 : State) (right_value : Value) (done3 : Done g a Placed h c1 w1 b1 s2 right_value c3 w3 b3 s3) where
    abbrev at : ℕ
    at = p + length left + length push + length right

    ends : at + length end ≡ p + length all
    ends = omega (arith, length-append left (push ++ (right ++ end)), length-append push (right ++ end), length-append right end)

    ready3 : Ready g a (pushed + 2) right_needs c3 w3 b3 s3
    ready3 = ready_stays g a (pushed + 2) right_needs right_needs c1 c3 w1 w3 b1 b3 s2 s3 (omega arith) push2.ready done3.kept

    waited : word_at s3.mem (sp_of s3) ≡ ax_of s1
    waited =
        let there = push2.are.waiting in
        number_waits g a pushed right_needs c1 c3 w1 w3 b1 b3 s2 s3 Ax push2.ready done3.kept ∙ omega (arith, there.0, there.1.0)

    copied : (to : IsAt w1 left_value s1) (from : IsAt w3 right_value s3) (j : ℕ) (seen : Seen) → j ≤ n → HasAt (lines_of g a) at end → HasTurns g c3.turns (place_in g a at) seen
        → Follows g j weight (Running (Carry 0 size ∷ k) (Place from.block from.offset ∷ Place to.block to.offset ∷ vs) c3) (place_in g a at) s3 seen
    copied to from j seen le has turned =
        let hand : AreAtHand w3 from.block from.offset to.block to.offset s3 = record { from = from.address.0; from_is = from.address.1; source = from.address.2; to = to.address.0; to_is = done3.kept.grows to.block _ to.address.1; target = waited ∙ to.address.2 } in
        copies_are_followed g a pushed right_needs size from.block from.offset to.block to.offset c3 w3 b3 s3 j weight at k vs seen placed has few ready3 hand turned (λ i c4 u later lt done turned2.
        let over : Kept g a c1 w1 b1 s1 c4 w3 b3 u = waiting_is_kept g a pushed right_needs _ c1 c3 c4 w1 w3 b1 b3 b3 s1 s2 s3 u push2.are done3.kept done.taken in
        let kept : Kept g a c w b s c4 w3 b3 u = kept_goes_on g a c c1 c4 w w1 w3 b b1 b3 s s1 u done1.kept over in
        let address : ax_of u ≡ to.address.0 + to.offset = done.value ∙ waited ∙ to.address.2 in
        subst (λ q. Follows g i (weight + 2600) (Running k (Place to.block to.offset ∷ vs) c4) (place_in g a q) u later) (sym ends)
        (rest i (Place to.block to.offset) c4 w3 b3 u later (omega (arith, lt, le)) (record { kept = kept; result = (to.address.0, done3.kept.grows to.block _ to.address.1, address); fits = tt }) (subst (λ q. HasTurns g c4.turns (place_in g a q) later) ends turned2)))

    followed : (j : ℕ) (seen : Seen) → j ≤ n → HasAt (lines_of g a) at end → HasTurns g c3.turns (place_in g a at) seen → Follows g j weight (Running (Carry 0 size ∷ k) (right_value ∷ left_value ∷ vs) c3) (place_in g a at) s3 seen
    followed j seen le has turned =
        let to = placed_at w1 left_value s1 done1.fits done1.result in
        let from = placed_at w3 right_value s3 done3.fits done3.result in
        subst (λ x. Follows g j weight (Running (Carry 0 size ∷ k) (x ∷ left_value ∷ vs) c3) (place_in g a at) s3 seen) (sym from.is)
        (subst (λ y. Follows g j weight (Running (Carry 0 size ∷ k) (Place from.block from.offset ∷ y ∷ vs) c3) (place_in g a at) s3 seen) (sym to.is) (copied to from j seen le has turned))

  two_wait : (c : Scene) (w : Placing) (b : Banks) (s : State) → Ready g a (pushed + 2) right_needs c w b s → more pushed 2 ≡ pushed + 2
  two_wait c w b s ready = mod-eq_of_lt (omega (arith, ready.sp, ready.joins.top))

  copy_does : Does g a Placed f first left_needs pushed left → Does g a Placed h second right_needs (more pushed 2) right → Does g a Placed (Area size) (λ k. first (second (Carry 0 size ∷ k))) (max left_needs (1 + right_needs)) pushed all
  copy_does before behind n weight p k vs c w b s seen has ready turns rest =
      let lines = lines_of g a in
      let has1 : HasAt lines (p + length left) (push ++ (right ++ end)) = has_back lines p left (push ++ (right ++ end)) has in
      let has2 : HasAt lines (p + length left + length push) (right ++ end) = has_back lines (p + length left) push (right ++ end) has1 in
      let ready0 : Ready g a pushed left_needs c w b s = record { joins = ready.joins; sp = ready.sp; room = omega (arith, ready.room); none_pushed = ready.none_pushed } in
      before n weight p (second (Carry 0 size ∷ k)) vs c w b s seen (has_front lines p left (push ++ (right ++ end)) has) ready0 turns (λ j left_value c1 w1 b1 s1 seen1 lt done1 turned1.
      let ready1 : Ready g a pushed (1 + right_needs) c1 w1 b1 s1 = ready_stays g a pushed (max left_needs (1 + right_needs)) (1 + right_needs) c c1 w w1 b b1 s s1 (omega arith) ready done1.kept in
      follows_weaken g j (256 + weight) (weight + 2600) (Running (second (Carry 0 size ∷ k)) (left_value ∷ vs) c1) (place_in g a (p + length left)) s1 seen1 (omega arith)
      (runs_lead g a pushed (1 + right_needs) c1 w1 b1 s1 PushAx (IsReadyPushed g a pushed right_needs c1 w1 b1 Word s1) (omega arith) ready1 (pushes_run g a pushed right_needs c1 w1 b1 s1 Word placed ready1) j weight (p + length left) c1.turns
      (Running (second (Carry 0 size ∷ k)) (left_value ∷ vs) c1) seen1 (has_front lines (p + length left) push (right ++ end) has1) turned1 (λ s2 seen2 push2 turned2.
      let ready2 : Ready g a (more pushed 2) right_needs c1 w1 b1 s2 = subst (λ q. Ready g a q right_needs c1 w1 b1 s2) (sym (two_wait c1 w1 b1 s2 push2.ready)) push2.ready in
      behind j weight (p + length left + length push) (Carry 0 size ∷ k) (left_value ∷ vs) c1 w1 b1 s2 seen2 (has_front lines (p + length left + length push) right end has2) ready2 turned2 (λ i right_value c3 w3 b3 s3 seen3 lt3 done3 turned3.
      follows_weaken g i weight (weight + 2600) (Running (Carry 0 size ∷ k) (right_value ∷ left_value ∷ vs) c3) (place_in g a (p + length left + length push + length right)) s3 seen3 (omega arith)
      (followed n weight p k vs c w b s rest c1 w1 b1 s1 left_value done1 s2 push2 c3 w3 b3 s3 right_value done3 i seen3 (omega (arith, lt, lt3)) (has_back lines (p + length left + length push) right end has2) turned3)))))

pub copies_do : CopiesDo
copies_do g a t left right placed parts is same few before behind pushed fresh =
    let size : ℕ = size_of (unit_in g).types (type_in t) in
    let bytes : type_bytes a.frame (type_in t) ≡ size = ap (λ (p : Parts). bytes_or (types_of p.types) (type_in t) 0) parts ∙ tag_bytes (unit_in g).types (type_in t) is few in
    let lines1 : List Line = expr_code a.frame pushed fresh wanted.Value left in
    let lines2 : List Line = expr_code a.frame (more pushed 2) (fresh + uses None left) wanted.Value right in
    let does : Does g a Placed (Area size) (λ k. plan (unit_in g) left (plan (unit_in g) right (Carry 0 size ∷ k))) (max (need left) (1 + need right)) pushed (lines1 ++ (push_code Ax ++ (lines2 ++ copy_code size))) =
    copy_does g a placed size few (need left) (need right) pushed (plan (unit_in g) left) (plan (unit_in g) right) (shape_in g a left) (shape_in g a right) lines1 lines2 (before pushed fresh) (behind (more pushed 2) (fresh + uses None left)) in
    let yields : yield_of (unit_in g) (node t (copy left right)) ≡ Placed = ap (λ (b : Bool). if b then Placed else Valued) is in
    subst (λ (y : Yield). Does g a y (shape_of (unit_in g).types (type_in t)) (plan (unit_in g) (node t (copy left right))) (max (need left) (1 + need right)) pushed (lines1 ++ (push_code Ax ++ (lines2 ++ copy_code (type_bytes a.frame (type_in t)))))) (sym yields)
    (subst (λ (f : Shape). Does g a Placed f (plan (unit_in g) (node t (copy left right))) (max (need left) (1 + need right)) pushed (lines1 ++ (push_code Ax ++ (lines2 ++ copy_code (type_bytes a.frame (type_in t)))))) (sym (tag_shape (unit_in g).types (type_in t) is))
    (subst (λ (m : ℕ). Does g a Placed (Area size) (plan (unit_in g) (node t (copy left right))) (max (need left) (1 + need right)) pushed (lines1 ++ (push_code Ax ++ (lines2 ++ copy_code m)))) (sym bytes)
    (subst (λ (ty : Ty). Does g a Placed (Area size) (λ k. plan (unit_in g) left (plan (unit_in g) right (Carry 0 (size_of (unit_in g).types ty) ∷ k))) (max (need left) (1 + need right)) pushed (lines1 ++ (push_code Ax ++ (lines2 ++ copy_code size)))) (sym same) does)))

pub places_have_addresses : PlacesHaveAddresses
places_have_addresses g a e placed does pushed fresh = subst (λ (y : Yield). Does g a y (shape_in g a e) (plan (unit_in g) e) (need e) pushed (expr_code a.frame pushed fresh wanted.Value e)) placed (does pushed fresh)
