-- A call through a pointer without arguments, whatever function it names.
use Rattle.std.proofs.Common.{◌≡◌, ℕ, ◌+◌, ◌<◌, Bool, List, [], ◌∷◌, ◌++◌, length, subst, arith, length-append}
use Rattle.c65_ctype.specs.Trees.{QTy, type_in}
use Rattle.c65_csem.specs.Trees.{Typed, node, call, none}
use Rattle.c65_csem_need.specs.Needs.{need}
use Rattle.c65_meaning.specs.Store.{Value, Place, Shape, Pointer}
use Rattle.c65_meaning.specs.Shapes.{shape_of}
use Rattle.c65_meaning.specs.Items.{Item, Invoke, plan}
use Rattle.c65_meaning.specs.State.{Scene, Running}
use Rattle.c65_code.specs.declared.line.Line.{Line}
use Rattle.c65_code.specs.declared.parts.RegSet.{RegSet}
use Rattle.c65_code.specs.LineState.{State}
use Rattle.c65_code.specs.Placement.{IsPlacement}
use Rattle.c65_code.specs.Comes.{Seen}
use Rattle.c65_genexpr.specs.declared.wanted.Wanted.TheVariants as wanted
use Rattle.c65_genexpr.specs.declared.arguments.Passed.{Passed}
use Rattle.c65_genexpr.specs.Types.{outcome_of, bare}
use Rattle.c65_genexpr.specs.Arguments.{is_fast, is_counted, passed_of}
use Rattle.c65_genexpr.specs.Calls.{count_code, result_code, ptr4_code}
use Rattle.c65_genexpr.specs.Code.{expr_code}
use Rattle.c65_agree_store.specs.Stands.{Placing, Banks}
use Rattle.c65_agree_state.specs.World.{World, unit_in, Active, lines_of, place_in, HasAt, HasTurns}
use Rattle.c65_agree_state.specs.Follows.{Follows}
use Rattle.c65_agree_state.specs.Exprs.{Ready, Valued, ResultIs, Kept, Rest, width_in, Does}
use Rattle.c65_agree_state.proofs.Followed.{follows_weaken, ready_is_calm}
use Rattle.c65_agree_state.proofs.Nodes.{has_front, has_back, ready_stays}
use Rattle.c65_agree_state.proofs.Parts.{kept_goes_on}
use Rattle.c65_agree_call.specs.Calls.{IsPut}
use Rattle.c65_agree_call.proofs.Put.{pointers_are_put}
use Rattle.c65_agree_argument.specs.Arguments.{waiting_bytes, left_of, IsOver}
use Rattle.c65_agree_argument.proofs.Over.{kept_over}
use Rattle.c65_agree_invoke.specs.Nodes.{DoesFor, gives_in}
use Rattle.c65_agree_invoke.proofs.Calling.{comes_back}
use Rattle.c65_agree_invoke.proofs.Pointers.{by_value}
use Rattle.c65_agree_invoke.specs.Targets.{through_code, IsReturned, MayBeReached, AllMayBeReached}
use Rattle.c65_agree_invoke.proofs.Lines.{line_through, AreSplit, splits, so_long}
use Rattle.c65_agree_invoke.proofs.Returned.{all_returned}

module _ (g : World) (a : Active) (n size : ℕ) (t : QTy) (f : Typed) (pushed fresh : ℕ) (placed : IsPlacement g.code g.place)
    (does : Does g a Valued (Pointer size) (plan (unit_in g) f) (need f) pushed (expr_code a.frame pushed fresh wanted.Value f)) (targets : AllMayBeReached g a n t f none) where
  abbrev fast : Bool
  fast = is_fast (bare f)

  abbrev counted : Bool
  counted = is_counted (bare f)

  abbrev what : Passed
  what = passed_of a.frame fast none

  abbrev gives : RegSet
  gives = gives_in a.frame t

  abbrev own : List Line
  own = expr_code a.frame pushed fresh wanted.Value f

  abbrev after : List Line
  after = result_code (outcome_of a.frame (type_in t))

  abbrev calls : List Line
  calls = count_code counted what ++ (line_through counted what gives ∷ after)

  abbrev all : List Line
  all = own ++ (ptr4_code ++ calls)

  abbrev its_shape : Shape
  its_shape = shape_of (unit_in g).types (type_in t)

  module _ (w p : ℕ) (k : List Item) (vs : List Value) (c : Scene) (q : Placing) (b : Banks) (u0 : State) (has : HasAt (lines_of g a) p all) (r0 : Ready g a pushed (need f) c q b u0) (rest : Rest g a Valued its_shape n w k vs (p + length all) c q b u0)
      (j : ℕ) (c1 : Scene) (q1 : Placing) (b1 : Banks) (u1 : State) (lt : j < n) (i : ℕ) (kept : Kept g a c q b u0 c1 q1 b1 u1) (is : ResultIs Valued q1 (width_in (Pointer size)) (Place i 0) u1) (target : MayBeReached g a n t f none i) where
    abbrev at : ℕ
    at = p + length own + 2

    ready1 : Ready g a pushed 0 c1 q1 b1 u1
    ready1 = ready_stays g a pushed (need f) 0 c c1 q q1 b b1 u0 u1 (omega arith) r0 kept

    at_ptr4 : HasAt (lines_of g a) (p + length own) (ptr4_code ++ calls)
    at_ptr4 = has_back (lines_of g a) p own (ptr4_code ++ calls) has

    split : AreSplit (lines_of g a) at counted what gives after
    split = splits (lines_of g a) at counted what gives after (has_back (lines_of g a) (p + length own) ptr4_code calls at_ptr4)

    ends : at + length (through_code counted what gives) + length after ≡ p + length all
    ends = omega (arith, so_long counted what gives after, length-append own (ptr4_code ++ calls))

    goes_back : (o : ℕ) (v : Value) (c2 : Scene) (q2 : Placing) (b2 : Banks) (u2 : State) (later : Seen) → o < j → IsReturned g a pushed 0 its_shape after c q b u0 v c2 q2 b2 u2 → HasTurns g c2.turns (place_in g a (at + length (through_code counted what gives))) later
        → Follows g o (w + 598 + 3112) (Running k (v ∷ vs) c2) (place_in g a (at + length (through_code counted what gives))) u2 later
    goes_back o v c2 q2 b2 u2 later less back turns =
        let flat : pushed + 0 ≡ pushed = omega arith in
        follows_weaken g o (w + 2856) (w + 598 + 3112) (Running k (v ∷ vs) c2) (place_in g a (at + length (through_code counted what gives))) u2 later (omega arith)
        (comes_back g a its_shape back.common after back.comes pushed n w (at + length (through_code counted what gives)) (p + length all) k vs c q b u0 rest ends split.behind
        o v c2 q2 b2 back.last u2 later (omega (arith, less, lt)) (all_returned g a pushed its_shape after c q b u0 v c2 q2 b2 u2 back) (subst (λ m. Ready g a m 0 c2 q2 b2 u2) flat back.ready) back.fits back.value back.given turns)

    -- behind the pointer
    is_put : (u2 : State) (later : Seen) → IsPut g a pushed 0 i c1 q1 b1 u1 u2 → HasTurns g c1.turns (place_in g a at) later → Follows g j (w + 598 + 2000 + left_of none) (Running (Invoke (bare f) [] ∷ k) (Place i 0 ∷ vs) c1) (place_in g a at) u2 later
    is_put u2 later put turns =
        let none_waits : 0 ≡ 0 + waiting_bytes fast [] = omega arith in
        let flat : pushed ≡ pushed + 0 + waiting_bytes fast [] = omega arith in
        let over : IsOver g a 0 c q b u0 c1 q1 b1 u2 = kept_over g a c c1 q q1 b b1 u0 u2 (kept_goes_on g a c c1 c1 q q1 q1 b b1 b1 u0 u1 u2 kept put.kept) in
        target.calls pushed 0 j (w + 598) at k vs [] c q b u0 c1 q1 b1 u2 later (omega (arith, lt)) tt (subst (λ m. IsOver g a m c q b u0 c1 q1 b1 u2) none_waits over) (subst (λ m. Ready g a m 0 c1 q1 b1 u2) flat put.ready) tt put.callee split.own turns goes_back

    is_called : (later : Seen) → HasTurns g c1.turns (place_in g a (p + length own)) later → Follows g j (w + 2600) (Running (Invoke (bare f) [] ∷ k) (Place i 0 ∷ vs) c1) (place_in g a (p + length own)) u1 later
    is_called later turns =
        follows_weaken g j (2 + (w + 598 + 2000 + left_of none)) (w + 2600) (Running (Invoke (bare f) [] ∷ k) (Place i 0 ∷ vs) c1) (place_in g a (p + length own)) u1 later (omega arith)
        (pointers_are_put g a pushed 0 i c1 q1 b1 u1 placed ready1 is target.few target.is_code j (w + 598 + 2000 + left_of none) (p + length own) c1.turns (Running (Invoke (bare f) [] ∷ k) (Place i 0 ∷ vs) c1) later
        (has_front (lines_of g a) (p + length own) ptr4_code calls at_ptr4) turns (λ u2 later2 put turns2. is_put u2 later2 put turns2))

  pub directly_does : DoesFor g a n Valued its_shape (plan (unit_in g) (node t (call f none))) (need (node t (call f none))) pushed all
  directly_does w p k vs c q b u0 seen has r turns rest =
      let r0 : Ready g a pushed (need f) c q b u0 = record { joins = r.joins; sp = r.sp; room = omega (arith, r.room); none_pushed = r.none_pushed } in
      does n w p (Invoke (bare f) [] ∷ k) vs c q b u0 seen (has_front (lines_of g a) p own (ptr4_code ++ calls) has) r0 turns (λ j v c1 q1 b1 u1 later lt done turns1.
      let ready : Ready g a pushed 0 c1 q1 b1 u1 = ready_stays g a pushed (need f) 0 c c1 q q1 b b1 u0 u1 (omega arith) r0 done.kept in
      by_value g a f none [] tt j (w + 2600) k vs c1 (place_in g a (p + length own)) u1 later (ready_is_calm g a pushed 0 c1 q1 b1 u1 ready).calm ready.joins.output ready.joins.ended (omega (arith, turns1)) v (λ i function same fits.
      is_called w p k vs c q b u0 has r0 rest j c1 q1 b1 u1 lt i done.kept (subst (λ x. ResultIs Valued q1 (width_in (Pointer size)) x u1) same done.result) (targets i function fits.0 fits.1) later turns1))
