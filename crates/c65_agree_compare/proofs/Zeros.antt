-- Equality with 0: the other side is tested.
use Rattle.std.proofs.Common.{◌≡◌, ℕ, zero, suc, ◌+◌, ◌<◌, ◌≤◌, List, [], ◌∷◌, ◌++◌, length, ℤ, pos, negsuc, Bool, true, false, Some, refl, sym, ap, ◌∙◌, subst, arith, length-append}
use Rattle.std.specs.Prelude.{not, if◌then◌else◌, int_lt, Result, Ok, Err}
use Rattle.std.specs.Bool.{beq}
use Rattle.std.proofs.lemmas.Bool.Decides.{nat_tests}
use Rattle.c65_base.specs.declared.operators.BinaryOp.{BinaryOp}
use Rattle.c65_base.specs.declared.operators.BinaryOp.TheVariants as ops
use Rattle.c65_ints.specs.declared.types.IntType.{IntType}
use Rattle.c65_meaning.specs.declared.action.Action.TheVariants.{EndedObject}
use Rattle.c65_meaning.specs.Why.{Why, By}
use Rattle.c65_meaning.specs.Integers.{truth, same_number}
use Rattle.c65_meaning.specs.Store as values
use Rattle.c65_meaning.specs.Store.{Store, Value, Whole, Null, Opaque, Cells, NoValue, Shape, Number, Field, Pointer, Area, is_live}
use Rattle.c65_meaning.specs.Items.{Item, Push, Apply2}
use Rattle.c65_meaning.specs.Operators.{test, truth_of, binary, while_live}
use Rattle.c65_meaning.specs.State.{Scene, Running}
use Rattle.c65_meaning.specs.Step.{go_on}
use Rattle.c65_code.specs.declared.line.Line.{Line}
use Rattle.c65_code.specs.declared.line.Line.TheVariants.{Label}
use Rattle.c65_code.specs.LineState.{State}
use Rattle.c65_code.specs.Comes.{Seen}
use Rattle.c65_gendirect.specs.declared.relation.Relation.{Relation}
use Rattle.c65_gendirect.specs.declared.relation.Relation.TheVariants.{Less, NotLess, Greater, NotGreater, Equal, Unequal}
use Rattle.c65_gendirect.specs.Compare.{relation_of}
use Rattle.c65_genexpr.specs.Comparing.{relation_by, zero_sense}
use Rattle.c65_agree_store.specs.Stands.{Placing, Banks}
use Rattle.c65_agree_step.proofs.Ways.{labels_are_passed}
use Rattle.c65_agree_state.specs.World.{World, setting_in, Active, lines_of, place_in, HasAt, HasTurns, HasBranched}
use Rattle.c65_agree_state.specs.Follows.{Follows}
use Rattle.c65_agree_state.specs.Exprs.{Ready, Kept, Tells}
use Rattle.c65_agree_state.proofs.Followed.{follows_weaken, steps_earn, ready_is_calm}
use Rattle.c65_agree_state.proofs.Nodes.{has_front, has_back, ready_stays}
use Rattle.c65_agree_rows.proofs.Quiet.{nothing_follows}
use Rattle.c65_agree_operate.specs.Manners.{Manner, IsLeft}
use Rattle.c65_agree_compare.specs.Branches.{end_of, RestOfSettled}
use Rattle.c65_agree_compare.specs.Laws.{IsZero, AreAlike, LeftTruthsSettle, RightTruthsSettle}
use Rattle.c65_agree_compare.proofs.Branches.{branched_turns}

-- ---- the operator

abbrev equality : Bool → BinaryOp
equality true = ops.Eq
equality false = ops.Ne

abbrev relation : Bool → Relation
relation true = Equal
relation false = Unequal

record IsEquality (op : BinaryOp) (s sense : Bool) : Type 0 where
  equal : Bool
  is : op ≡ equality equal
  sense_is : zero_sense (relation_by s (relation equal)) ≡ Some sense

abbrev IsOrder : Relation → Type 0
IsOrder Equal = ⊥
IsOrder Unequal = ⊥
IsOrder r = Unit {0}

no_order : (r : Relation) (s sense : Bool) → IsOrder r → zero_sense (relation_by s r) ≡ Some sense → ⊥
no_order Less true sense o e = cc
no_order Less false sense o e = cc
no_order NotLess true sense o e = cc
no_order NotLess false sense o e = cc
no_order Greater true sense o e = cc
no_order Greater false sense o e = cc
no_order NotGreater true sense o e = cc
no_order NotGreater false sense o e = cc
no_order Equal s sense o e = absurd o
no_order Unequal s sense o e = absurd o

same_sense : (x r : Relation) (s sense : Bool) → Some x ≡ Some r → zero_sense (relation_by s r) ≡ Some sense → zero_sense (relation_by s x) ≡ Some sense
same_sense x r s sense e h = let same : x ≡ r = cc in subst (λ y. zero_sense (relation_by s y) ≡ Some sense) (sym same) h

is_equality : (op : BinaryOp) (r : Relation) (s sense : Bool) → relation_of op ≡ Some r → zero_sense (relation_by s r) ≡ Some sense → IsEquality op s sense
is_equality ops.Eq r s sense e h = record { equal = true; is = refl; sense_is = same_sense Equal r s sense e h }
is_equality ops.Ne r s sense e h = record { equal = false; is = refl; sense_is = same_sense Unequal r s sense e h }
is_equality ops.Lt r s sense e h = absurd (no_order Less s sense tt (same_sense Less r s sense e h))
is_equality ops.Ge r s sense e h = absurd (no_order NotLess s sense tt (same_sense NotLess r s sense e h))
is_equality ops.Gt r s sense e h = absurd (no_order Greater s sense tt (same_sense Greater r s sense e h))
is_equality ops.Le r s sense e h = absurd (no_order NotGreater s sense tt (same_sense NotGreater r s sense e h))
is_equality ops.Mul r s sense e h = absurd (cc)
is_equality ops.Div r s sense e h = absurd (cc)
is_equality ops.Rem r s sense e h = absurd (cc)
is_equality ops.Add r s sense e h = absurd (cc)
is_equality ops.Sub r s sense e h = absurd (cc)
is_equality ops.Shl r s sense e h = absurd (cc)
is_equality ops.Shr r s sense e h = absurd (cc)
is_equality ops.BitAnd r s sense e h = absurd (cc)
is_equality ops.BitXor r s sense e h = absurd (cc)
is_equality ops.BitOr r s sense e h = absurd (cc)

abbrev outcome : Bool → Bool → Bool
outcome true b = not b
outcome false b = b

senses_agree : (equal s sense b : Bool) → zero_sense (relation_by s (relation equal)) ≡ Some sense → beq b sense ≡ beq (outcome equal b) s
senses_agree true true sense true e = let f : sense ≡ false = cc in ap (beq true) f
senses_agree true true sense false e = let f : sense ≡ false = cc in ap (beq false) f
senses_agree true false sense true e = let f : sense ≡ true = cc in ap (beq true) f
senses_agree true false sense false e = let f : sense ≡ true = cc in ap (beq false) f
senses_agree false true sense true e = let f : sense ≡ true = cc in ap (beq true) f
senses_agree false true sense false e = let f : sense ≡ true = cc in ap (beq false) f
senses_agree false false sense true e = let f : sense ≡ false = cc in ap (beq true) f
senses_agree false false sense false e = let f : sense ≡ false = cc in ap (beq false) f

-- ---- what the operator gives

-- the value has a truth, and the result is 1 or 0 by it
record IsByTruth (equal : Bool) (s : Store) (v x : Value) : Type 0 where
  b : Bool
  is : truth_of s v ≡ Ok b
  gives : x ≡ Whole (truth (outcome equal b))

by_test : (y : Bool) (x : Value) → test y ≡ Ok x → x ≡ Whole (truth y)
by_test y x e = cc

of_live : (equal : Bool) (s : Store) (b o : ℕ) (x : Value) (y : Result Value Why) → y ≡ test (outcome equal true) → while_live s b y ≡ Ok x → IsByTruth equal s (values.Place b o) x
of_live equal s b o x y is e = go (is_live s b) refl e
  where
    go : (live : Bool) → is_live s b ≡ live → (if live then y else Err (By EndedObject)) ≡ Ok x → IsByTruth equal s (values.Place b o) x
    go true l h = record { b = true; is = ap (λ (z : Bool). if z then Ok true else Err (By EndedObject)) l; gives = by_test (outcome equal true) x (sym is ∙ h) }
    go false l h = absurd (cc)

-- a number that is not 0
some_left : (n : ℕ) → same_number (pos (suc n)) (pos 0) ≡ false
some_left n =
    let h : int_lt (pos (suc n)) (pos 0) ≡ false = grind (arith, nat_tests) in
    let h2 : int_lt (pos 0) (pos (suc n)) ≡ true = grind (arith, nat_tests) in
    rw (h, h2) refl

some_right : (n : ℕ) → same_number (pos 0) (pos (suc n)) ≡ false
some_right n =
    let h : int_lt (pos (suc n)) (pos 0) ≡ false = grind (arith, nat_tests) in
    let h2 : int_lt (pos 0) (pos (suc n)) ≡ true = grind (arith, nat_tests) in
    rw (h2) refl

number_left : (equal : Bool) (s : Store) (t r : IntType) (v x : Value) → binary s (equality equal) (Number t) (Number r) v (Whole (pos 0)) ≡ Ok x → IsByTruth equal s v x
number_left true s t r (Whole (pos zero)) x e = record { b = false; is = refl; gives = by_test true x e }
number_left true s t r (Whole (pos (suc n))) x e = record { b = true; is = refl; gives = by_test false x (ap test (sym (some_left n)) ∙ e) }
number_left true s t r (Whole (negsuc n)) x e = record { b = true; is = refl; gives = by_test false x e }
number_left false s t r (Whole (pos zero)) x e = record { b = false; is = refl; gives = by_test false x e }
number_left false s t r (Whole (pos (suc n))) x e = record { b = true; is = refl; gives = by_test true x (ap (λ y. test (not y)) (sym (some_left n)) ∙ e) }
number_left false s t r (Whole (negsuc n)) x e = record { b = true; is = refl; gives = by_test true x e }
number_left equal s t r Null x e = absurd (cc)
number_left equal s t r (values.Place b o) x e = absurd (cc)
number_left equal s t r Opaque x e = absurd (cc)
number_left equal s t r (Cells xs) x e = absurd (cc)
number_left equal s t r NoValue x e = absurd (cc)

number_right : (equal : Bool) (s : Store) (t r : IntType) (v x : Value) → binary s (equality equal) (Number t) (Number r) (Whole (pos 0)) v ≡ Ok x → IsByTruth equal s v x
number_right true s t r (Whole (pos zero)) x e = record { b = false; is = refl; gives = by_test true x e }
number_right true s t r (Whole (pos (suc n))) x e = record { b = true; is = refl; gives = by_test false x (ap test (sym (some_right n)) ∙ e) }
number_right true s t r (Whole (negsuc n)) x e = record { b = true; is = refl; gives = by_test false x e }
number_right false s t r (Whole (pos zero)) x e = record { b = false; is = refl; gives = by_test false x e }
number_right false s t r (Whole (pos (suc n))) x e = record { b = true; is = refl; gives = by_test true x (ap (λ y. test (not y)) (sym (some_right n)) ∙ e) }
number_right false s t r (Whole (negsuc n)) x e = record { b = true; is = refl; gives = by_test true x e }
number_right equal s t r Null x e = absurd (cc)
number_right equal s t r (values.Place b o) x e = absurd (cc)
number_right equal s t r Opaque x e = absurd (cc)
number_right equal s t r (Cells xs) x e = absurd (cc)
number_right equal s t r NoValue x e = absurd (cc)

pointer_left : (equal : Bool) (s : Store) (size other : ℕ) (v x : Value) → binary s (equality equal) (Pointer size) (Pointer other) v Null ≡ Ok x → IsByTruth equal s v x
pointer_left true s size other Null x e = record { b = false; is = refl; gives = by_test true x e }
pointer_left false s size other Null x e = record { b = false; is = refl; gives = by_test false x e }
pointer_left true s size other (values.Place b o) x e = of_live true s b o x (test false) refl e
pointer_left false s size other (values.Place b o) x e = of_live false s b o x (test true) refl e
pointer_left equal s size other (Whole z) x e = absurd (cc)
pointer_left equal s size other Opaque x e = absurd (cc)
pointer_left equal s size other (Cells xs) x e = absurd (cc)
pointer_left equal s size other NoValue x e = absurd (cc)

pointer_right : (equal : Bool) (s : Store) (size other : ℕ) (v x : Value) → binary s (equality equal) (Pointer size) (Pointer other) Null v ≡ Ok x → IsByTruth equal s v x
pointer_right true s size other Null x e = record { b = false; is = refl; gives = by_test true x e }
pointer_right false s size other Null x e = record { b = false; is = refl; gives = by_test false x e }
pointer_right true s size other (values.Place b o) x e = of_live true s b o x (test false) refl e
pointer_right false s size other (values.Place b o) x e = of_live false s b o x (test true) refl e
pointer_right equal s size other (Whole z) x e = absurd (cc)
pointer_right equal s size other Opaque x e = absurd (cc)
pointer_right equal s size other (Cells xs) x e = absurd (cc)
pointer_right equal s size other NoValue x e = absurd (cc)

left_by_truth : (equal : Bool) (s : Store) (f h : Shape) (v z x : Value) → AreAlike f h → IsZero h z → binary s (equality equal) f h v z ≡ Ok x → IsByTruth equal s v x
left_by_truth equal s (Number t) (Number r) v z x alike is e = number_left equal s t r v x (subst (λ y. binary s (equality equal) (Number t) (Number r) v y ≡ Ok x) is e)
left_by_truth equal s (Pointer size) (Pointer other) v z x alike is e = pointer_left equal s size other v x (subst (λ y. binary s (equality equal) (Pointer size) (Pointer other) v y ≡ Ok x) is e)
left_by_truth equal s f h v z x alike is e = absurd alike

right_by_truth : (equal : Bool) (s : Store) (f h : Shape) (v z x : Value) → AreAlike f h → IsZero f z → binary s (equality equal) f h z v ≡ Ok x → IsByTruth equal s v x
right_by_truth equal s (Number t) (Number r) v z x alike is e = number_right equal s t r v x (subst (λ y. binary s (equality equal) (Number t) (Number r) y v ≡ Ok x) is e)
right_by_truth equal s (Pointer size) (Pointer other) v z x alike is e = pointer_right equal s size other v x (subst (λ y. binary s (equality equal) (Pointer size) (Pointer other) y v ≡ Ok x) is e)
right_by_truth equal s f h v z x alike is e = absurd alike

-- ---- behind the test

-- at the label, or behind the label of the comparison
module _ (g : World) (a : Active) (m : Manner) (equal s sense : Bool) (sense_is : zero_sense (relation_by s (relation equal)) ≡ Some sense) (to own n weight p : ℕ) (lines : List Line) (k : List Item) (vs : List Value) (c : Scene) (w : Placing) (b : Banks) (t : State)
    (has : HasAt (lines_of g a) p (lines ++ Label own ∷ [])) (rest : RestOfSettled g a m s to n weight (p + length (lines ++ Label own ∷ [])) k vs c w b t)
    (o : ℕ) (lt : o < n) (v : Value) (taken : Bool) (c2 : Scene) (w2 : Placing) (b2 : Banks) (u : State) (later : Seen) (kept : Kept g a c w b t c2 w2 b2 u) (told : Tells c2.store v sense taken) (left : IsLeft m c t c2 u)
    (branched : HasBranched g taken c2.turns (place_in g a (end_of g a taken to (p + length lines))) later) (more : ℕ) (enough : weight + 2700 + m.over ≤ more) where
  abbrev end : ℕ
  end = p + length (lines ++ Label own ∷ [])

  same_end : (x : Bool) → place_in g a (end_of g a x to (p + length lines)) ≡ place_in g a (end_of g a x to end)
  same_end true = refl
  same_end false =
      let e : suc (p + length lines) ≡ end = omega (arith, length-append lines (Label own ∷ [])) in
      labels_are_passed (setting_in g) a.symbol (p + length lines) own (has_back (lines_of g a) p lines (Label own ∷ []) has).0 ∙ ap (place_in g a) e

  equal_follows : (y : Result Value Why) → ((x : Value) → y ≡ Ok x → IsByTruth equal c2.store v x) → Follows g o more (go_on y k vs c2) (place_in g a (end_of g a taken to (p + length lines))) u later
  equal_follows (Err why) by = nothing_follows g why o more (place_in g a (end_of g a taken to (p + length lines))) u later
  equal_follows (Ok x) by =
      let h = by x refl in
      let y : Bool = outcome equal h.b in
      let same : taken ≡ beq y s = told h.b h.is ∙ senses_agree equal s sense h.b sense_is in
      let place : place_in g a (end_of g a taken to (p + length lines)) ≡ place_in g a (end_of g a (beq y s) to end) = same_end taken ∙ ap (λ d. place_in g a (end_of g a d to end)) same in
      let come : HasBranched g (beq y s) c2.turns (place_in g a (end_of g a (beq y s) to end)) later = subst (λ d. HasBranched g d c2.turns (place_in g a (end_of g a (beq y s) to end)) later) same (subst (λ q. HasBranched g taken c2.turns q later) place branched) in
      subst (λ q. Follows g o more (Running k (x ∷ vs) c2) q u later) (sym place)
      (subst (λ z. Follows g o more (Running k (z ∷ vs) c2) (place_in g a (end_of g a (beq y s) to end)) u later) (sym h.gives)
      (follows_weaken g o (weight + 2700 + m.over) more (Running k (Whole (truth y) ∷ vs) c2) (place_in g a (end_of g a (beq y s) to end)) u later (omega (arith, enough))
      (rest o y c2 w2 b2 u later lt kept left come)))

pub left_truths_settle : LeftTruthsSettle
left_truths_settle g a m op r f h z operands right_type s sense to own needs pushed first left right by_relation by_sense alike is tests n weight p k vs c w b t seen has ready turns rest =
    let e : IsEquality op s sense = is_equality op r s sense by_relation by_sense in
    tests n weight p (Push z ∷ Apply2 op f h ∷ k) vs c w b t seen (has_front (lines_of g a) p left (Label own ∷ []) has) ready turns (λ j v taken c2 w2 b2 u later lt kept fit told gone branched.
    let at = place_in g a (end_of g a taken to (p + length left)) in
    let ready2 = ready_stays g a pushed needs needs c c2 w w2 b b2 t u (omega arith) ready kept in
    let calm = (ready_is_calm g a pushed needs c2 w2 b2 u ready2).calm in
    let turned = branched_turns g taken c2.turns at later branched in
    steps_earn g j (weight + 2600 + m.over) (Push z) (Apply2 op f h ∷ k) (v ∷ vs) c2 at u later calm kept.joins.output kept.joins.ended (omega (arith, turned)) (λ i less.
    steps_earn g i (weight + 2600 + m.over + 4000) (Apply2 op f h) k (z ∷ v ∷ vs) c2 at u later calm kept.joins.output kept.joins.ended (omega (arith, turned)) (λ o less2.
    equal_follows g a m e.equal s sense e.sense_is to own n weight p left k vs c w b t has rest o (omega (arith, lt, less, less2)) v taken c2 w2 b2 u later kept told gone branched (weight + 2600 + m.over + 4000 + 4000) (omega arith) (binary c2.store op f h v z)
    (λ x given. left_by_truth e.equal c2.store f h v z x alike is (subst (λ y. binary c2.store y f h v z ≡ Ok x) e.is given)))))

pub right_truths_settle : RightTruthsSettle
right_truths_settle g a m op r f h z operands right_type s sense to own needs pushed second left right by_relation by_sense alike is tests n weight p k vs c w b t seen has ready turns rest =
    let e : IsEquality op s sense = is_equality op r s sense by_relation by_sense in
    steps_earn g n weight (Push z) (second (Apply2 op f h ∷ k)) vs c (place_in g a p) t seen (ready_is_calm g a pushed needs c w b t ready).calm ready.joins.output ready.joins.ended (omega (arith, turns)) (λ i less.
    follows_weaken g i weight (weight + 4000) (Running (second (Apply2 op f h ∷ k)) (z ∷ vs) c) (place_in g a p) t seen (omega arith)
    (tests i weight p (Apply2 op f h ∷ k) (z ∷ vs) c w b t seen (has_front (lines_of g a) p right (Label own ∷ []) has) ready turns (λ j v taken c2 w2 b2 u later lt kept fit told gone branched.
    let at = place_in g a (end_of g a taken to (p + length right)) in
    let ready2 = ready_stays g a pushed needs needs c c2 w w2 b b2 t u (omega arith) ready kept in
    let turned = branched_turns g taken c2.turns at later branched in
    steps_earn g j (weight + 2600 + m.over) (Apply2 op f h) k (v ∷ z ∷ vs) c2 at u later (ready_is_calm g a pushed needs c2 w2 b2 u ready2).calm kept.joins.output kept.joins.ended (omega (arith, turned)) (λ o less2.
    equal_follows g a m e.equal s sense e.sense_is to own n weight p right k vs c w b t has rest o (omega (arith, lt, less, less2)) v taken c2 w2 b2 u later kept told gone branched (weight + 2600 + m.over + 4000) (omega arith) (binary c2.store op f h z v)
    (λ x given. right_by_truth e.equal c2.store f h v z x alike is (subst (λ y. binary c2.store y f h z v ≡ Ok x) e.is given))))))
