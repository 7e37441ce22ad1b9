-- Sums of a pointer and a constant, which the base of the pointer tells.
use Rattle.std.proofs.Common.{◌≡◌, ℕ, ℤ, pos, suc, ◌+◌, ◌*◌, ◌%◌, ◌<◌, ◌≤◌, max, ◌*ℤ◌, List, ◌∷◌, Bool, true, sym, ap, subst, arith}
use Rattle.std.specs.Prelude.{if◌then◌else◌, length}
use Rattle.c65_base.specs.declared.operators.BinaryOp.TheVariants.{Add}
use Rattle.c65_ints.specs.declared.types.IntType.{IntType}
use Rattle.c65_ctype.specs.Trees.{type_in}
use Rattle.c65_ctype.specs.Sizes.{size_of}
use Rattle.c65_csem.specs.Trees.{Typed, node, constant, binary}
use Rattle.c65_csem_need.specs.Needs.{need}
use Rattle.c65_meaning.specs.Store as values
use Rattle.c65_meaning.specs.Store.{Whole, Shape, Number}
use Rattle.c65_meaning.specs.Items.{Item, Push, Apply2, plan}
use Rattle.c65_meaning.specs.Shapes.{shape_of}
use Rattle.c65_meaning.specs.State.{Running}
use Rattle.c65_code.specs.declared.line.Line.{Line}
use Rattle.c65_code.specs.declared.line.Line.TheVariants.{Label}
use Rattle.c65_code.specs.Placement.{IsPlacement}
use Rattle.c65_genload.specs.declared.places.Place.{Place}
use Rattle.c65_genexpr.specs.declared.destination.Destination.{Destination}
use Rattle.c65_genexpr.specs.Types.{bare}
use Rattle.c65_genexpr.specs.Operands.{residue_of}
use Rattle.c65_genexpr.specs.Places.{moved, has_base, sum_has_base, sum_place, target_of}
use Rattle.c65_genexpr.specs.Code.{pointer_base_code, sum_base_code}
use Rattle.c65_agree_step.proofs.Ways.{labels_are_passed}
use Rattle.c65_agree_state.specs.World.{World, unit_in, setting_in, Active, place_in, total_in, HasTurns}
use Rattle.c65_agree_state.specs.Follows.{Follows}
use Rattle.c65_agree_state.specs.Exprs.{Ready}
use Rattle.c65_agree_state.specs.Joins.{Joins}
use Rattle.c65_agree_state.proofs.Followed.{follows_weaken, steps_earn, ready_is_calm}
use Rattle.c65_agree_state.proofs.Nodes.{ready_stays}
use Rattle.c65_agree_operate.specs.Manners.{Manner}
use Rattle.c65_agree_structures.specs.Bases.{IsToldBy}
use Rattle.c65_agree_structures.proofs.Members.{is_moved, moves, told_on}
use Rattle.c65_agree_structures.proofs.Constants.{added_word, added_is}
use Rattle.c65_agree_loading.specs.Bases.{arrived_at, handed_on, TellsIn}
use Rattle.c65_agree_loading.specs.BaseLaws.{SumsTell}
use Rattle.c65_agree_loading.proofs.Members.{arrived_ready}

module _ (g : World) (a : Active) (m : Manner) (d : Destination) (placed : IsPlacement g.code g.place) (size : ℕ) (kind : IntType) (z : ℤ) (few : size < 65536) (needs pushed label : ℕ) (work : List Item → List Item) (place : Place) (base : List Line) (tells : TellsIn g a m d work needs pushed place base) where
  abbrev bytes : ℕ
  bytes = residue_of z * size % 4294967296

  abbrev add : Item
  add = Apply2 Add (values.Pointer size) (Number kind)

  by_base : has_base place bytes ≡ true → TellsIn g a m d (λ k. work (Push (Whole z) ∷ add ∷ k)) (max needs (1 + 0)) pushed (moved place bytes) (Label label ∷ base)
  by_base known n w p k vs c q b s seen has r turned rest =
      let more : ℕ = w + handed_on d in
      let ends : suc p + length base ≡ p + length (Label label ∷ base) = omega arith in
      let passed = labels_are_passed (setting_in g) a.symbol p label has.0 in
      let ready : Ready g a pushed needs c q b s = record { joins = r.joins; sp = r.sp; room = omega (arith, r.room); none_pushed = r.none_pushed } in
      subst (λ y. Follows g n w (Running (work (Push (Whole z) ∷ add ∷ k)) vs c) y s seen) (sym passed)
      (tells n w (suc p) (Push (Whole z) ∷ add ∷ k) vs c q b s seen has.1 ready (subst (λ y. HasTurns g c.turns y seen) passed turned) (λ j v c2 q2 b2 u later lt kept told left turned2.
      let ready2 = ready_stays g a pushed needs needs c c2 q q2 b b2 s u (omega arith) ready kept in
      let joins : Joins g a c2 q2 b2 (arrived_at d u) = (arrived_ready g a d pushed needs c2 q2 b2 u placed ready2).joins in
      let calm = (ready_is_calm g a pushed needs c2 q2 b2 u ready2).calm in
      let turns : c2.turns ≤ total_in g later = omega (arith, turned2) in
      steps_earn g j more (Push (Whole z)) (add ∷ k) (v ∷ vs) c2 (place_in g a (suc p + length base)) u later calm kept.joins.output kept.joins.ended turns (λ i less.
      steps_earn g i (more + 4000) add k (Whole z ∷ v ∷ vs) c2 (place_in g a (suc p + length base)) u later calm kept.joins.output kept.joins.ended turns (λ l fewer.
      moves g a l (more + 4000 + 4000) (suc p + length base) k vs c2 u later (pos size *ℤ z) v (λ y o x same e.
      let here = is_moved c2.store y o (pos size *ℤ z) x e in
      let there : IsToldBy g a place c2 q2 (arrived_at d u) (values.Place y o) = subst (IsToldBy g a place c2 q2 (arrived_at d u)) same told in
      let on : IsToldBy g a (moved place bytes) c2 q2 (arrived_at d u) x =
      subst (IsToldBy g a (moved place bytes) c2 q2 (arrived_at d u)) (sym here.is) (told_on g a c2 q2 b2 (arrived_at d u) joins y o bytes here.to here.inside (λ low. added_word size o here.to z few low here.sum) place known there) in
      follows_weaken g l more (more + 4000 + 4000) (Running k (x ∷ vs) c2) (place_in g a (suc p + length base)) u later (omega arith)
      (subst (λ y. Follows g l more (Running k (x ∷ vs) c2) (place_in g a y) u later) (sym ends)
      (rest l x c2 q2 b2 u later (omega (arith, lt, less, fewer)) kept on left (subst (λ y. HasTurns g c2.turns (place_in g a y) later) ends turned2))))))))

pub sums_tell : SumsTell
sums_tell g a m d kind t s q x z placed names number bytes_are few based does pushed fresh =
    let one : ℕ = size_of (unit_in g).types (type_in q) in
    let count : ℕ = residue_of z * one % 4294967296 in
    let sum : Typed = node t (binary Add x (node s (constant z))) in
    let target : Place = target_of a.frame pushed x in
    let lines : List Line = pointer_base_code a.frame pushed (fresh + 1) d x in
    let code : List Line = sum_base_code a.frame pushed fresh d t Add x (node s (constant z)) in
    let is = added_is g a one kind t s q x z names number bytes_are pushed fresh in
    let known : has_base target count ≡ true = subst (λ o. sum_has_base target o ≡ true) is (based pushed) in
    let shape : shape_of (unit_in g).types (bare x) ≡ values.Pointer one = ap (shape_of (unit_in g).types) names in
    let other : shape_of (unit_in g).types (type_in s) ≡ Number kind = ap (shape_of (unit_in g).types) number in
    subst (λ o. TellsIn g a m d (plan (unit_in g) sum) (need sum) pushed (sum_place target o) (if sum_has_base target o then Label fresh ∷ lines else code)) (sym is)
    (subst (λ (b : Bool). TellsIn g a m d (plan (unit_in g) sum) (need sum) pushed (moved target count) (if b then Label fresh ∷ lines else code)) (sym known)
    (subst (λ (f : Shape). TellsIn g a m d (λ k. plan (unit_in g) x (Push (Whole z) ∷ Apply2 Add f (shape_of (unit_in g).types (type_in s)) ∷ k)) (need sum) pushed (moved target count) (Label fresh ∷ lines)) (sym shape)
    (subst (λ (f : Shape). TellsIn g a m d (λ k. plan (unit_in g) x (Push (Whole z) ∷ Apply2 Add (values.Pointer one) f ∷ k)) (need sum) pushed (moved target count) (Label fresh ∷ lines)) (sym other)
    (by_base g a m d placed one kind z few (need x) pushed fresh (plan (unit_in g) x) target lines (does pushed (fresh + 1)) known))))
