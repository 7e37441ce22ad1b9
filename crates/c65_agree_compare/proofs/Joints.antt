-- `&&` and `||`: a left side that decides, or the right one.
use Rattle.std.proofs.Common.{◌≡◌, ℕ, suc, ◌+◌, ◌<◌, max, List, [], ◌∷◌, ◌++◌, Bool, true, false, length, refl, sym, ap, ◌∙◌, subst, arith, length-append}
use Rattle.std.specs.Prelude.{if◌then◌else◌, Result, Ok, Err}
use Rattle.std.specs.Bool.{beq}
use Rattle.c65_csem.specs.Trees.{Typed}
use Rattle.c65_meaning.specs.Why.{Why, ◌>>=◌}
use Rattle.c65_meaning.specs.Integers.{truth}
use Rattle.c65_meaning.specs.Store.{Value, Whole, Shape}
use Rattle.c65_meaning.specs.Items.{Item, Truth, plan}
use Rattle.c65_meaning.specs.Operators.{truth_of}
use Rattle.c65_meaning.specs.State as meaning
use Rattle.c65_meaning.specs.State.{Scene, Running, Undefined}
use Rattle.c65_meaning.specs.Step.{go_on, decided, perform}
use Rattle.c65_code.specs.declared.line.Line.{Line}
use Rattle.c65_code.specs.declared.line.Line.TheVariants.{Label}
use Rattle.c65_code.specs.LineState.{State}
use Rattle.c65_code.specs.Moves.{labelled}
use Rattle.c65_code.specs.Comes.{Seen}
use Rattle.c65_genexpr.specs.Wanted.{is_straight, way, joined}
use Rattle.c65_agree_store.specs.Stands.{Placing, Banks}
use Rattle.c65_agree_step.proofs.Ways.{labels_are_passed}
use Rattle.c65_agree_state.specs.World.{World, unit_in, program_in, setting_in, Active, lines_of, place_in, IsPlaced, HasAt, HasTurns, HasBranched}
use Rattle.c65_agree_state.specs.Follows.{Follows}
use Rattle.c65_agree_state.specs.Exprs.{Ready, Kept, Tells}
use Rattle.c65_agree_state.proofs.Followed.{follows_weaken, steps_earn, ready_is_calm}
use Rattle.c65_agree_state.proofs.Nodes.{has_front, has_back, ready_stays}
use Rattle.c65_agree_state.proofs.Parts.{kept_goes_on}
use Rattle.c65_agree_rows.proofs.Quiet.{nothing_follows}
use Rattle.c65_agree_operate.specs.Manners.{Manner, IsLeft}
use Rattle.c65_agree_operate.proofs.Manners.{left_then}
use Rattle.c65_agree_compare.specs.Branches.{end_of, RestOfSettled, BranchesIn, SettlesIn}
use Rattle.c65_agree_compare.specs.Laws.{joint_item, JointsSettle}
use Rattle.c65_agree_compare.proofs.Branches.{branched_turns, branched_as}

straight_is : (stop s : Bool) → beq stop s ≡ is_straight stop s
straight_is true true = refl
straight_is true false = refl
straight_is false true = refl
straight_is false false = refl

-- ---- the step behind the left side

module _ (g : World) (b : Typed) (k : List Item) (vs : List Value) (c : Scene) where
  abbrev on_right : meaning.State
  on_right = Running (plan (unit_in g) b (Truth ∷ k)) vs c

  abbrev settled : Bool → meaning.State
  settled stop = Running k (Whole (truth stop) ∷ vs) c

  abbrev behind_joint : Bool → Result Bool Why → meaning.State
  behind_joint stop (Err why) = Undefined why
  behind_joint stop (Ok y) = if beq y stop then settled stop else on_right

  joint_is : (stop : Bool) (v : Value) (r : Result Bool Why) → truth_of c.store v ≡ r → perform (program_in g) (joint_item stop b) k (v ∷ vs) c ≡ behind_joint stop r
  joint_is true v r e = ap (λ x. decided x (settled true) on_right) e ∙ same r
    where
      same : (x : Result Bool Why) → decided x (settled true) on_right ≡ behind_joint true x
      same (Err why) = refl
      same (Ok true) = refl
      same (Ok false) = refl
  joint_is false v r e = ap (λ x. decided x on_right (settled false)) e ∙ same r
    where
      same : (x : Result Bool Why) → decided x on_right (settled false) ≡ behind_joint false x
      same (Err why) = refl
      same (Ok true) = refl
      same (Ok false) = refl

-- ---- the places where the two sides lead

module _ (g : World) (a : Active) (m : Manner) (placed : IsPlaced (lines_of g a)) (h : Shape) (stop s x : Bool) (is : beq stop s ≡ x) (to own needs more_needs pushed : ℕ) (b : Typed) (left right : List Line) (right_tests : BranchesIn g a m h s to (plan (unit_in g) b) more_needs pushed right)
    (n weight p : ℕ) (k : List Item) (vs : List Value) (c : Scene) (w : Placing) (banks : Banks) (t : State) (has : HasAt (lines_of g a) p (joined x own left right)) (r : Ready g a pushed (max needs (1 + more_needs)) c w banks t)
    (rest : RestOfSettled g a m s to n weight (p + length (joined x own left right)) k vs c w banks t) where
  abbrev tail : Bool → List Line
  tail y = if y then [] else Label own ∷ []

  abbrev last : ℕ
  last = p + length left + length right

  abbrev end : ℕ
  end = p + length (joined x own left right)

  sides : HasAt (lines_of g a) (p + length left) (right ++ tail x)
  sides = has_back (lines_of g a) p left (right ++ tail x) has

  behind : HasAt (lines_of g a) last (tail x)
  behind = has_back (lines_of g a) (p + length left) right (tail x) sides

  lengths : last + length (tail x) ≡ end
  lengths = omega (arith, length-append left (right ++ tail x), length-append right (tail x))

  passed : (y : Bool) → HasAt (lines_of g a) last (tail y) → place_in g a last ≡ place_in g a (last + length (tail y))
  passed true there = let e : last ≡ last + 0 = omega arith in ap (place_in g a) e
  passed false there = let e : suc last ≡ last + 1 = omega arith in labels_are_passed (setting_in g) a.symbol last own there.0 ∙ ap (place_in g a) e

  last_is_end : place_in g a last ≡ place_in g a end
  last_is_end = passed x behind ∙ ap (place_in g a) lengths

  left_leads : (y : Bool) → HasAt (lines_of g a) last (tail y) → place_in g a (labelled (lines_of g a) (way y to own)) ≡ place_in g a (end_of g a y to last)
  left_leads true there = refl
  left_leads false there = ap (place_in g a) (placed last own there.0)

  at_end : (y : Bool) → place_in g a (end_of g a y to last) ≡ place_in g a (end_of g a y to end)
  at_end true = refl
  at_end false = last_is_end

  left_ends : place_in g a (labelled (lines_of g a) (way x to own)) ≡ place_in g a (end_of g a (beq stop s) to end)
  left_ends = left_leads x behind ∙ at_end x ∙ ap (λ y. place_in g a (end_of g a y to end)) (sym is)

  -- ---- behind the left side

  module _ (o : ℕ) (lt : o < n) (v : Value) (taken : Bool) (c2 : Scene) (w2 : Placing) (b2 : Banks) (u : State) (later : Seen) (kept : Kept g a c w banks t c2 w2 b2 u) (told : Tells c2.store v stop taken) (held : IsLeft m c t c2 u)
      (branched : HasBranched g taken c2.turns (place_in g a (end_of g a taken (way x to own) (p + length left))) later) where
    abbrev at : Bool → ℕ
    at y = end_of g a y (way x to own) (p + length left)

    abbrev more : ℕ
    more = weight + 2600 + m.over + 4000

    -- it decides
    left_settles : HasBranched g true c2.turns (place_in g a (at true)) later → Follows g o more (settled g b k vs c2 stop) (place_in g a (at true)) u later
    left_settles come =
        subst (λ q. Follows g o more (settled g b k vs c2 stop) q u later) (sym left_ends)
        (follows_weaken g o (weight + 2700 + m.over) more (settled g b k vs c2 stop) (place_in g a (end_of g a (beq stop s) to end)) u later (omega arith)
        (rest o stop c2 w2 b2 u later lt kept held (branched_as g (beq stop s) c2.turns (place_in g a (end_of g a (beq stop s) to end)) later (subst (λ q. HasBranched g true c2.turns q later) left_ends come))))

    -- behind the right side
    truth_follows : (i : ℕ) → i < n → (v2 : Value) (gone : Bool) (c3 : Scene) (w3 : Placing) (b3 : Banks) (z : State) (after : Seen) → Kept g a c2 w2 b2 u c3 w3 b3 z → Tells c3.store v2 s gone → IsLeft m c2 u c3 z
        → HasBranched g gone c3.turns (place_in g a (end_of g a gone to last)) after → (y : Result Bool Why) → truth_of c3.store v2 ≡ y
        → Follows g i more (go_on (y >>= λ d. Ok (Whole (truth d))) k vs c3) (place_in g a (end_of g a gone to last)) z after
    truth_follows i less v2 gone c3 w3 b3 z after kept2 told2 held2 gone_on (Err why) e = nothing_follows g why i more (place_in g a (end_of g a gone to last)) z after
    truth_follows i less v2 gone c3 w3 b3 z after kept2 told2 held2 gone_on (Ok y) e =
        let same : gone ≡ beq y s = told2 y e in
        let place : place_in g a (end_of g a gone to last) ≡ place_in g a (end_of g a (beq y s) to end) = at_end gone ∙ ap (λ d. place_in g a (end_of g a d to end)) same in
        let come : HasBranched g (beq y s) c3.turns (place_in g a (end_of g a (beq y s) to end)) after = subst (λ d. HasBranched g d c3.turns (place_in g a (end_of g a (beq y s) to end)) after) same (subst (λ q. HasBranched g gone c3.turns q after) place gone_on) in
        subst (λ q. Follows g i more (Running k (Whole (truth y) ∷ vs) c3) q z after) (sym place)
        (follows_weaken g i (weight + 2700 + m.over) more (Running k (Whole (truth y) ∷ vs) c3) (place_in g a (end_of g a (beq y s) to end)) z after (omega arith)
        (rest i y c3 w3 b3 z after less (kept_goes_on g a c c2 c3 w w2 w3 banks b2 b3 t u z kept kept2) (left_then m c c2 c3 t u z held held2) come))

    right_follows : HasBranched g false c2.turns (place_in g a (at false)) later → Follows g o more (on_right g b k vs c2) (place_in g a (at false)) u later
    right_follows turned =
        let ready : Ready g a pushed more_needs c2 w2 b2 u = ready_stays g a pushed (max needs (1 + more_needs)) more_needs c c2 w w2 banks b2 t u (omega arith) r kept in
        follows_weaken g o weight more (on_right g b k vs c2) (place_in g a (p + length left)) u later (omega arith)
        (right_tests o weight (p + length left) (Truth ∷ k) vs c2 w2 b2 u later (has_front (lines_of g a) (p + length left) right (tail x) sides) ready turned (λ j v2 gone c3 w3 b3 z after less kept2 fit2 told2 held2 gone_on.
        let ready3 = ready_stays g a pushed more_needs more_needs c2 c3 w2 w3 b2 b3 u z (omega arith) ready kept2 in
        steps_earn g j (weight + 2600 + m.over) Truth k (v2 ∷ vs) c3 (place_in g a (end_of g a gone to last)) z after (ready_is_calm g a pushed more_needs c3 w3 b3 z ready3).calm kept2.joins.output kept2.joins.ended
        (omega (arith, branched_turns g gone c3.turns (place_in g a (end_of g a gone to last)) after gone_on)) (λ i less2.
        truth_follows i (omega (arith, lt, less, less2)) v2 gone c3 w3 b3 z after kept2 told2 held2 gone_on (truth_of c3.store v2) refl)))

    decides : (y : Bool) → taken ≡ y → Follows g o more (if y then settled g b k vs c2 stop else on_right g b k vs c2) (place_in g a (at taken)) u later
    decides true e = subst (λ d. Follows g o more (settled g b k vs c2 stop) (place_in g a (at d)) u later) (sym e) (left_settles (subst (λ d. HasBranched g d c2.turns (place_in g a (at d)) later) e branched))
    decides false e = subst (λ d. Follows g o more (on_right g b k vs c2) (place_in g a (at d)) u later) (sym e) (right_follows (subst (λ d. HasBranched g d c2.turns (place_in g a (at d)) later) e branched))

    joint_follows : (y : Result Bool Why) → truth_of c2.store v ≡ y → Follows g o more (behind_joint g b k vs c2 stop y) (place_in g a (at taken)) u later
    joint_follows (Err why) e = nothing_follows g why o more (place_in g a (at taken)) u later
    joint_follows (Ok y) e = decides (beq y stop) (told y e)

pub joints_settle : JointsSettle
joints_settle g a m f h stop s to own needs more_needs pushed first b left right placed left_tests right_tests n weight p k vs c w banks t seen has r turns rest =
    let x : Bool = is_straight stop s in
    let ready : Ready g a pushed needs c w banks t = record { joins = r.joins; sp = r.sp; room = omega (arith, r.room); none_pushed = r.none_pushed } in
    left_tests n weight p (joint_item stop b ∷ k) vs c w banks t seen (has_front (lines_of g a) p left (right ++ (if x then [] else Label own ∷ [])) has) ready turns (λ j v taken c2 w2 b2 u later lt kept fit told held branched.
    let ready2 = ready_stays g a pushed needs needs c c2 w w2 banks b2 t u (omega arith) ready kept in
    let at = place_in g a (end_of g a taken (way x to own) (p + length left)) in
    steps_earn g j (weight + 2600 + m.over) (joint_item stop b) k (v ∷ vs) c2 at u later (ready_is_calm g a pushed needs c2 w2 b2 u ready2).calm kept.joins.output kept.joins.ended (omega (arith, branched_turns g taken c2.turns at later branched)) (λ o less.
    subst (λ z. Follows g o (weight + 2600 + m.over + 4000) z at u later) (sym (joint_is g b k vs c2 stop v (truth_of c2.store v) refl))
    (joint_follows g a m placed h stop s x (straight_is stop s) to own needs more_needs pushed b left right right_tests n weight p k vs c w banks t has r rest o (omega (arith, lt, less)) v taken c2 w2 b2 u later kept told held branched (truth_of c2.store v) refl)))
