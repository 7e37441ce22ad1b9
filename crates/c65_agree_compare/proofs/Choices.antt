-- `?:` and `,`: one part behind another.
use Rattle.std.proofs.Common.{◌≡◌, ℕ, suc, ◌+◌, ◌<◌, ◌≤◌, max, List, [], ◌∷◌, ◌++◌, Bool, true, false, length, refl, sym, ap, ◌∙◌, subst, arith, length-append}
use Rattle.std.specs.Prelude.{Result, Ok, Err}
use Rattle.std.specs.Bool.{beq}
use Rattle.c65_csem.specs.Trees.{Typed}
use Rattle.c65_mach.specs.declared.rows.Op.TheVariants.{Jmp}
use Rattle.c65_mach.specs.declared.rows.Mode.TheVariants.{Absolute}
use Rattle.c65_meaning.specs.Why.{Why}
use Rattle.c65_meaning.specs.Store.{Value, Shape, Area}
use Rattle.c65_meaning.specs.Items.{Item, Choose, Drop, plan}
use Rattle.c65_meaning.specs.Operators.{truth_of}
use Rattle.c65_meaning.specs.State.{Scene, Running}
use Rattle.c65_meaning.specs.Step.{decided}
use Rattle.c65_code.specs.declared.line.Operand.TheVariants.{To}
use Rattle.c65_code.specs.declared.line.Line.{Line}
use Rattle.c65_code.specs.declared.line.Line.TheVariants.{Label, Do}
use Rattle.c65_code.specs.LineState.{State}
use Rattle.c65_code.specs.Moves.{labelled}
use Rattle.c65_code.specs.Comes.{Seen, seen_at}
use Rattle.c65_agree_store.specs.Stands.{Placing, Banks}
use Rattle.c65_agree_step.proofs.Ways.{labels_are_passed}
use Rattle.c65_agree_state.specs.World.{World, unit_in, setting_in, Active, lines_of, place_in, IsPlaced, HasAt, HasTurns, HasBranched}
use Rattle.c65_agree_state.specs.Follows.{Follows}
use Rattle.c65_agree_state.specs.Exprs.{Ready, Yield, Placed, Kept, Done, Tells}
use Rattle.c65_agree_state.proofs.Followed.{follows_weaken, steps_earn, arrivals_count, ready_is_calm}
use Rattle.c65_agree_state.proofs.Nodes.{has_front, has_back, ready_stays}
use Rattle.c65_agree_state.proofs.Parts.{kept_goes_on}
use Rattle.c65_agree_state.proofs.Tests.{jump}
use Rattle.c65_agree_rows.proofs.Quiet.{nothing_follows}
use Rattle.c65_agree_operate.specs.Manners.{Manner, IsLeft, RestIn, DoesIn}
use Rattle.c65_agree_operate.proofs.Manners.{left_then}
use Rattle.c65_agree_compare.specs.Branches.{end_of}
use Rattle.c65_agree_compare.specs.Laws.{chosen, ChoicesDo, AreasDo, CommasDoIn, CommasBranch}
use Rattle.c65_agree_compare.proofs.Branches.{branched_turns}

-- ---- `?:`

module _ (g : World) (a : Active) (m : Manner) (placed : IsPlaced (lines_of g a)) (yield : Yield) (h : Shape) (fresh needs left_needs right_needs pushed : ℕ) (x y : Typed) (test left right : List Line)
    (left_does : DoesIn g a m yield h (plan (unit_in g) x) left_needs pushed left) (right_does : DoesIn g a m yield h (plan (unit_in g) y) right_needs pushed right)
    (n weight p : ℕ) (k : List Item) (vs : List Value) (c : Scene) (w : Placing) (b : Banks) (t : State) (has : HasAt (lines_of g a) p (chosen fresh test left right)) (r : Ready g a pushed (max needs (max left_needs right_needs)) c w b t)
    (rest : RestIn g a m yield h n weight k vs (p + length (chosen fresh test left right)) c w b t) where
  abbrev other_arm : List Line
  other_arm = right ++ Label (fresh + 1) ∷ []

  abbrev behind_left : List Line
  behind_left = Do Jmp Absolute (To (fresh + 1)) ∷ Label fresh ∷ other_arm

  abbrev first_at : ℕ
  first_at = p + length test

  abbrev jump_at : ℕ
  jump_at = first_at + length left

  abbrev right_at : ℕ
  right_at = suc (suc jump_at)

  abbrev last_at : ℕ
  last_at = right_at + length right

  abbrev end : ℕ
  end = p + length (chosen fresh test left right)

  ends : suc last_at ≡ end
  ends = omega (arith, length-append test (left ++ behind_left), length-append left behind_left, length-append right (Label (fresh + 1) ∷ []))

  arms : HasAt (lines_of g a) first_at (left ++ behind_left)
  arms = has_back (lines_of g a) p test (left ++ behind_left) has

  jumps : HasAt (lines_of g a) jump_at behind_left
  jumps = has_back (lines_of g a) first_at left behind_left arms

  ended : HasAt (lines_of g a) last_at (Label (fresh + 1) ∷ [])
  ended = has_back (lines_of g a) right_at right (Label (fresh + 1) ∷ []) jumps.1.1

  last_is_end : place_in g a last_at ≡ place_in g a end
  last_is_end = labels_are_passed (setting_in g) a.symbol last_at (fresh + 1) ended.0 ∙ ap (place_in g a) ends

  jump_is_end : place_in g a (labelled (lines_of g a) (fresh + 1)) ≡ place_in g a end
  jump_is_end = ap (place_in g a) (placed last_at (fresh + 1) ended.0) ∙ last_is_end

  to_right : place_in g a (labelled (lines_of g a) fresh) ≡ place_in g a right_at
  to_right = ap (place_in g a) (placed (suc jump_at) fresh jumps.1.0) ∙ labels_are_passed (setting_in g) a.symbol (suc jump_at) fresh jumps.1.0

  module _ (o : ℕ) (lt : o < n) (v : Value) (taken : Bool) (c2 : Scene) (w2 : Placing) (b2 : Banks) (u : State) (later : Seen) (kept : Kept g a c w b t c2 w2 b2 u) (told : Tells c2.store v false taken) (gone : IsLeft m c t c2 u)
      (branched : HasBranched g taken c2.turns (place_in g a (end_of g a taken fresh first_at)) later) where
    abbrev more : ℕ
    more = weight + 2600 + m.over + 4000

    both_done : (v2 : Value) (c3 : Scene) (w3 : Placing) (b3 : Banks) (z : State) → Done g a yield h c2 w2 b2 u v2 c3 w3 b3 z → Done g a yield h c w b t v2 c3 w3 b3 z
    both_done v2 c3 w3 b3 z d = record { kept = kept_goes_on g a c c2 c3 w w2 w3 b b2 b3 t u z kept d.kept; result = d.result; fits = d.fits }

    ready_for : (least : ℕ) → least ≤ max needs (max left_needs right_needs) → Ready g a pushed least c2 w2 b2 u
    ready_for least le = ready_stays g a pushed (max needs (max left_needs right_needs)) least c c2 w w2 b b2 t u le r kept

    first_follows : HasBranched g false c2.turns (place_in g a first_at) later → Follows g o more (Running (plan (unit_in g) x k) vs c2) (place_in g a first_at) u later
    first_follows turned =
        follows_weaken g o (1 + weight) more (Running (plan (unit_in g) x k) vs c2) (place_in g a first_at) u later (omega arith)
        (left_does o (1 + weight) first_at k vs c2 w2 b2 u later (has_front (lines_of g a) first_at left behind_left arms) (ready_for left_needs (omega arith)) turned (λ j v2 c3 w3 b3 z after less done gone2 turned2.
        let ready3 = ready_stays g a pushed left_needs left_needs c2 c3 w2 w3 b2 b3 u z (omega arith) (ready_for left_needs (omega arith)) done.kept in
        let seen2 = seen_at (place_in g a (labelled (lines_of g a) (fresh + 1))) after in
        follows_weaken g j (1 + (weight + 2600 + m.over)) (1 + weight + 2600 + m.over) (Running k (v2 ∷ vs) c3) (place_in g a jump_at) z after (omega arith)
        (jump g j (weight + 2600 + m.over) (Running k (v2 ∷ vs) c3) a.symbol jump_at (fresh + 1) z after (record { line = Do Jmp Absolute (To (fresh + 1)); there = jumps.0; formed = refl; calm = (ready_is_calm g a pushed left_needs c3 w3 b3 z ready3).calm; within = tt; running = ready3.joins.ended })
        (subst (λ q. Follows g j (weight + 2600 + m.over) (Running k (v2 ∷ vs) c3) q z seen2) (sym jump_is_end)
        (rest j v2 c3 w3 b3 z seen2 (omega (arith, lt, less)) (both_done v2 c3 w3 b3 z done) (left_then m c c2 c3 t u z gone gone2)
        (subst (λ q. HasTurns g c3.turns q seen2) jump_is_end (arrivals_count g c3.turns (place_in g a (labelled (lines_of g a) (fresh + 1))) after (omega (arith, turned2)))))))))

    second_follows : HasBranched g true c2.turns (place_in g a (labelled (lines_of g a) fresh)) later → Follows g o more (Running (plan (unit_in g) y k) vs c2) (place_in g a (labelled (lines_of g a) fresh)) u later
    second_follows come =
        let turned : HasTurns g c2.turns (place_in g a right_at) later = subst (λ q. HasTurns g c2.turns q later) to_right (branched_turns g true c2.turns (place_in g a (labelled (lines_of g a) fresh)) later come) in
        subst (λ q. Follows g o more (Running (plan (unit_in g) y k) vs c2) q u later) (sym to_right)
        (follows_weaken g o weight more (Running (plan (unit_in g) y k) vs c2) (place_in g a right_at) u later (omega arith)
        (right_does o weight right_at k vs c2 w2 b2 u later (has_front (lines_of g a) right_at right (Label (fresh + 1) ∷ []) jumps.1.1) (ready_for right_needs (omega arith)) turned (λ j v2 c3 w3 b3 z after less done gone2 turned2.
        subst (λ q. Follows g j (weight + 2600 + m.over) (Running k (v2 ∷ vs) c3) q z after) (sym last_is_end)
        (rest j v2 c3 w3 b3 z after (omega (arith, lt, less)) (both_done v2 c3 w3 b3 z done) (left_then m c c2 c3 t u z gone gone2) (subst (λ q. HasTurns g c3.turns q after) last_is_end turned2)))))

    arm_follows : (e : Bool) → taken ≡ beq e false → Follows g o more (decided (Ok e) (Running (plan (unit_in g) x k) vs c2) (Running (plan (unit_in g) y k) vs c2)) (place_in g a (end_of g a taken fresh first_at)) u later
    arm_follows true same =
        subst (λ d. Follows g o more (Running (plan (unit_in g) x k) vs c2) (place_in g a (end_of g a d fresh first_at)) u later) (sym same)
        (first_follows (subst (λ d. HasBranched g d c2.turns (place_in g a (end_of g a d fresh first_at)) later) same branched))
    arm_follows false same =
        subst (λ d. Follows g o more (Running (plan (unit_in g) y k) vs c2) (place_in g a (end_of g a d fresh first_at)) u later) (sym same)
        (second_follows (subst (λ d. HasBranched g d c2.turns (place_in g a (end_of g a d fresh first_at)) later) same branched))

    choice_follows : (e : Result Bool Why) → truth_of c2.store v ≡ e → Follows g o more (decided e (Running (plan (unit_in g) x k) vs c2) (Running (plan (unit_in g) y k) vs c2)) (place_in g a (end_of g a taken fresh first_at)) u later
    choice_follows (Err why) is = nothing_follows g why o more (place_in g a (end_of g a taken fresh first_at)) u later
    choice_follows (Ok e) is = arm_follows e (told e is)

pub choices_do : ChoicesDo
choices_do g a m yield f h fresh needs left_needs right_needs pushed first x y test left right placed tests left_does right_does n weight p k vs c w b t seen has r turns rest =
    let ready : Ready g a pushed needs c w b t = record { joins = r.joins; sp = r.sp; room = omega (arith, r.room); none_pushed = r.none_pushed } in
    tests n weight p (Choose x y ∷ k) vs c w b t seen (has_front (lines_of g a) p test (left ++ (Do Jmp Absolute (To (fresh + 1)) ∷ Label fresh ∷ (right ++ Label (fresh + 1) ∷ []))) has) ready turns (λ j v taken c2 w2 b2 u later lt kept fit told gone branched.
    let ready2 = ready_stays g a pushed needs needs c c2 w w2 b b2 t u (omega arith) ready kept in
    let at = place_in g a (end_of g a taken fresh (p + length test)) in
    steps_earn g j (weight + 2600 + m.over) (Choose x y) k (v ∷ vs) c2 at u later (ready_is_calm g a pushed needs c2 w2 b2 u ready2).calm kept.joins.output kept.joins.ended (omega (arith, branched_turns g taken c2.turns at later branched)) (λ o less.
    choice_follows g a m placed yield h fresh needs left_needs right_needs pushed x y test left right left_does right_does n weight p k vs c w b t has r rest o (omega (arith, lt, less)) v taken c2 w2 b2 u later kept told gone branched (truth_of c2.store v) refl))

-- ---- places of structures and unions

as_area : (g : World) (a : Active) (f : Shape) (size : ℕ) (c : Scene) (w : Placing) (k : Banks) (t : State) (v : Value) (c2 : Scene) (w2 : Placing) (k2 : Banks) (u : State) → Done g a Placed f c w k t v c2 w2 k2 u → Done g a Placed (Area size) c w k t v c2 w2 k2 u
as_area g a f size c w k t v c2 w2 k2 u d = record { kept = d.kept; result = d.result; fits = d.fits }

pub areas_do : AreasDo
areas_do g a m f size needs pushed work lines does n weight p k vs c w b t seen has r turns rest =
    does n weight p k vs c w b t seen has r turns (λ j v c2 w2 b2 u later lt done left turned. rest j v c2 w2 b2 u later lt (as_area g a f size c w b t v c2 w2 b2 u done) left turned)

-- ---- `,`

-- behind the left side, whose value is not used
module _ (g : World) (a : Active) (m : Manner) (before : Yield) (f : Shape) (needs more_needs pushed : ℕ) (first second : List Item → List Item) (left right : List Line) (does : DoesIn g a m before f first needs pushed left) where
  left_behind : (n weight p : ℕ) (k : List Item) (vs : List Value) (c : Scene) (w : Placing) (b : Banks) (t : State) (seen : Seen) → HasAt (lines_of g a) p (left ++ right) → Ready g a pushed (max needs (1 + more_needs)) c w b t → HasTurns g c.turns (place_in g a p) seen
      → ((o : ℕ) (c2 : Scene) (w2 : Placing) (b2 : Banks) (u : State) (later : Seen) → o < n → HasAt (lines_of g a) (p + length left) right → Ready g a pushed more_needs c2 w2 b2 u → Kept g a c w b t c2 w2 b2 u → IsLeft m c t c2 u → HasTurns g c2.turns (place_in g a (p + length left)) later
      → Follows g o weight (Running (second k) vs c2) (place_in g a (p + length left)) u later)
      → Follows g n weight (Running (first (Drop ∷ second k)) vs c) (place_in g a p) t seen
  left_behind n weight p k vs c w b t seen has r turns goes =
      let ready : Ready g a pushed needs c w b t = record { joins = r.joins; sp = r.sp; room = omega (arith, r.room); none_pushed = r.none_pushed } in
      does n weight p (Drop ∷ second k) vs c w b t seen (has_front (lines_of g a) p left right has) ready turns (λ j v c2 w2 b2 u later lt done gone turned.
      let ready2 = ready_stays g a pushed (max needs (1 + more_needs)) more_needs c c2 w w2 b b2 t u (omega arith) r done.kept in
      steps_earn g j (weight + 2600 + m.over) Drop (second k) (v ∷ vs) c2 (place_in g a (p + length left)) u later (ready_is_calm g a pushed more_needs c2 w2 b2 u ready2).calm done.kept.joins.output done.kept.joins.ended (omega (arith, turned)) (λ o less.
      follows_weaken g o weight (weight + 2600 + m.over + 4000) (Running (second k) vs c2) (place_in g a (p + length left)) u later (omega arith)
      (goes o c2 w2 b2 u later (omega (arith, lt, less)) (has_back (lines_of g a) p left right has) ready2 done.kept gone turned)))

-- behind both sides
both_end : (left right : List Line) (p : ℕ) → p + length left + length right ≡ p + length (left ++ right)
both_end left right p = omega (arith, length-append left right)

pub commas_do_in : CommasDoIn
commas_do_in g a m before after f h needs more_needs pushed first second left right does right_does n weight p k vs c w b t seen has r turns rest =
    left_behind g a m before f needs more_needs pushed first second left right does n weight p k vs c w b t seen has r turns (λ o c2 w2 b2 u later lt there ready kept gone turned.
    right_does o weight (p + length left) k vs c2 w2 b2 u later there ready turned (λ j v c3 w3 b3 z last less done gone2 turned2.
    let same = both_end left right p in
    subst (λ q. Follows g j (weight + 2600 + m.over) (Running k (v ∷ vs) c3) (place_in g a q) z last) (sym same)
    (rest j v c3 w3 b3 z last (omega (arith, lt, less)) (record { kept = kept_goes_on g a c c2 c3 w w2 w3 b b2 b3 t u z kept done.kept; result = done.result; fits = done.fits }) (left_then m c c2 c3 t u z gone gone2) (subst (λ q. HasTurns g c3.turns (place_in g a q) last) same turned2))))

pub commas_branch : CommasBranch
commas_branch g a m before f h s to needs more_needs pushed first second left right does tests n weight p k vs c w b t seen has r turns rest =
    left_behind g a m before f needs more_needs pushed first second left right does n weight p k vs c w b t seen has r turns (λ o c2 w2 b2 u later lt there ready kept gone turned.
    tests o weight (p + length left) k vs c2 w2 b2 u later there ready turned (λ j v taken c3 w3 b3 z last less kept2 fit told gone2 branched.
    let same = both_end left right p in
    subst (λ q. Follows g j (weight + 2600 + m.over) (Running k (v ∷ vs) c3) (place_in g a (end_of g a taken to q)) z last) (sym same)
    (rest j v taken c3 w3 b3 z last (omega (arith, lt, less)) (kept_goes_on g a c c2 c3 w w2 w3 b b2 b3 t u z kept kept2) fit told (left_then m c c2 c3 t u z gone gone2) (subst (λ q. HasBranched g taken c3.turns (place_in g a (end_of g a taken to q)) last) same branched))))
