-- Operators by routines: the left operand waits on the software stack while the right one comes.
use Rattle.std.proofs.Common.{◌≡◌, ℕ, ◌+◌, ◌<◌, ◌≤◌, ◌%◌, max, List, [], ◌∷◌, ◌++◌, length, ℤ, Bool, false, Some, refl, sym, ap, ◌∙◌, subst, arith, length-append}
use Rattle.std.specs.Prelude.{if◌then◌else◌, Result, Ok, Err}
use Rattle.std.proofs.Math.Nat.{mod-eq_of_lt}
use Rattle.c65_base.specs.declared.operators.BinaryOp.{BinaryOp}
use Rattle.c65_ints.specs.declared.types.IntType.{IntType}
use Rattle.c65_ints.specs.Ranges.{is_signed_of, InRange}
use Rattle.c65_meaning.specs.Why.{Why}
use Rattle.c65_meaning.specs.Store.{Value, Whole, Number}
use Rattle.c65_meaning.specs.Items.{Item, Apply2}
use Rattle.c65_meaning.specs.Operators.{calculated, binary}
use Rattle.c65_meaning.specs.State.{Scene, Running}
use Rattle.c65_meaning.specs.Step.{go_on}
use Rattle.c65_code.specs.declared.line.Line.{Line}
use Rattle.c65_code.specs.declared.line.Line.TheVariants.{Label}
use Rattle.c65_code.specs.declared.routine.Routine.TheVariants.{Tos}
use Rattle.c65_code.specs.declared.routine.TosOp.{TosOp}
use Rattle.c65_code.specs.declared.routine.Width.{Width}
use Rattle.c65_code.specs.declared.routine.Width.TheVariants.{Ax, Eax}
use Rattle.c65_code.specs.LineState.{State, sp_of}
use Rattle.c65_code.specs.Placement.{IsPlacement}
use Rattle.c65_code.specs.Numbers.{words_of, tos_result, result_width}
use Rattle.c65_code.specs.Rows.{number_at, primary_of, size_of}
use Rattle.c65_code.specs.Comes.{Seen}
use Rattle.c65_genwide.specs.Lines.{call}
use Rattle.c65_genwide.specs.Wide.{width_of, tos_of, is_comparison, narrow_code, wide_code}
use Rattle.c65_genload.specs.Conversions.{convert_code, push_code, waiting}
use Rattle.c65_genexpr.specs.Places.{more}
use Rattle.c65_agree_store.specs.Stands.{At, Placing, Banks, IsFree}
use Rattle.c65_agree_numbers.specs.Words.{word_of, converted_word}
use Rattle.c65_agree_numbers.proofs.Residues.{word_below}
use Rattle.c65_agree_state.specs.World.{World, Active, lines_of, place_in, HasAt, HasTurns}
use Rattle.c65_agree_state.specs.Follows.{Follows}
use Rattle.c65_agree_state.specs.Exprs.{Ready, Valued, MayFit, ResultIs, Kept, Done}
use Rattle.c65_agree_state.proofs.Followed.{follows_weaken, steps_earn, ready_is_calm}
use Rattle.c65_agree_state.proofs.Nodes.{has_front, has_back, ready_stays}
use Rattle.c65_agree_state.proofs.Parts.{kept_goes_on}
use Rattle.c65_agree_rows.specs.Laws.{IsReadyPopped}
use Rattle.c65_agree_rows.proofs.Quiet.{nothing_follows}
use Rattle.c65_agree_frame.specs.Leads.{Leads}
use Rattle.c65_agree_frame.proofs.Leads.{leads_then, leads_as}
use Rattle.c65_agree_operate.specs.Manners.{Manner, IsLeft, RestIn, DoesIn}
use Rattle.c65_agree_operate.specs.Laws.{AreOperands, on_numbers, StackedOperatorsDo}
use Rattle.c65_agree_operate.proofs.Manners.{left_then, left_scene, left_heavy}
use Rattle.c65_agree_operate.proofs.Converted.{IsBrought, convert_leads}
use Rattle.c65_agree_operate.proofs.Given.{IsCalculated, is_calculated, result_in, none_narrow, same_width, word_given}
use Rattle.c65_agree_operate.proofs.Routines.{label_leads, IsPushed, push_leads, number_waits, operator_leads}

-- ---- behind the right operand

-- what waited is taken off, and the primary register has the result
pub record IsTaken (g : World) (a : Active) (pushed needs : ℕ) (c : Scene) (w : Placing) (k : Banks) (width : Width) (n : ℕ) (t u : State) : Type 0 where
  pub ready : Ready g a pushed needs c w k u
  pub sp : sp_of u ≡ sp_of t + size_of width
  pub mem : (m : ℕ) → sp_of t + size_of width ≤ m → IsFree c.store w (At m) → u.mem m ≡ t.mem m
  pub word : primary_of width u ≡ n

module _ (g : World) (a : Active) (op : BinaryOp) (t r : IntType) (label pushed needs : ℕ) (placed : IsPlacement g.code g.place) (plain : is_comparison op ≡ false) (operands : AreOperands op t r) (c : Scene) (w : Placing) (k : Banks) (x : State)
    (ready : Ready g a (pushed + size_of (width_of t)) needs c w k x) (p q z : ℤ) (there : number_at (width_of t) x.mem (sp_of x) ≡ word_of t p) (here : primary_of (width_of r) x ≡ word_of r q) (left : InRange t p) (right : InRange r q) (is : calculated op t p q ≡ Ok (Whole z)) where
  abbrev routine : TosOp
  routine = tos_of op (is_signed_of t)

  abbrev back : List Line
  back = (convert_code r t ++ wide_code op t) ++ Label label ∷ []

  one_call : wide_code op t ≡ call (Tos routine (width_of t)) ∷ []
  one_call = ap (λ (b : Bool). call (Tos routine (width_of t)) ∷ (if b then [] else narrow_code t)) plain ∙ ap (λ ls. call (Tos routine (width_of t)) ∷ ls) (none_narrow t operands.0)

  module _ (y : State) (brought : IsBrought g a c w k x (primary_of (width_of t)) (converted_word r t (word_of r q)) false y) where
    later : Ready g a (pushed + size_of (width_of t)) needs c w k y
    later = ready_stays g a (pushed + size_of (width_of t)) needs needs c c w w k k x y (omega arith) ready brought.kept

    given : tos_result routine (width_of t) (number_at (width_of t) y.mem (sp_of y)) (primary_of (width_of t) y) ≡ Some (word_of t z)
    given =
        let waits : number_at (width_of t) y.mem (sp_of y) ≡ word_of t p = number_waits g a pushed needs c c w w k k x y (width_of t) ready brought.kept ∙ there in
        ap (λ n. tos_result routine (width_of t) n (primary_of (width_of t) y)) waits ∙ ap (tos_result routine (width_of t) (word_of t p)) brought.word ∙ word_given op t r p q z plain operands left right is

    own : result_width routine (width_of t) ≡ width_of t
    own = same_width op (is_signed_of t) (width_of t) plain

    small : word_of t z < words_of (result_width routine (width_of t))
    small = subst (λ width. word_of t z < words_of width) (sym own) (word_below (width_of t) z)

    taken : (u : State) → IsReadyPopped g a pushed needs c w k routine (width_of t) (word_of t z) y u → IsTaken g a pushed needs c w k (width_of t) (word_of t z) x u
    taken u h = record {
      ready = h.ready;
      sp = h.are.sp ∙ ap (λ n. n + size_of (width_of t)) brought.kept.sp;
      mem = λ m le free. h.are.mem m (omega (arith, le, brought.kept.sp)) ∙ (brought.kept.kept m (omega (arith, le)) free).0;
      word = subst (λ width. primary_of width u ≡ word_of t z) own h.result;
    }

    called : Leads g a (wide_code op t) 2048 y (IsTaken g a pushed needs c w k (width_of t) (word_of t z) x)
    called = subst (λ ls. Leads g a ls 2048 y (IsTaken g a pushed needs c w k (width_of t) (word_of t z) x)) (sym one_call)
        (leads_as g a (call (Tos routine (width_of t)) ∷ []) 2048 2048 y (IsReadyPopped g a pushed needs c w k routine (width_of t) (word_of t z) y) (IsTaken g a pushed needs c w k (width_of t) (word_of t z) x) (omega arith) (λ u h. taken u h)
        (operator_leads g a pushed needs c w k y routine (width_of t) (word_of t z) placed later given small))

  pub back_leads : Leads g a back 2304 x (IsTaken g a pushed needs c w k (width_of t) (word_of t z) x)
  back_leads =
      leads_then g a (convert_code r t ++ wide_code op t) (Label label ∷ []) 2304 0 x (IsTaken g a pushed needs c w k (width_of t) (word_of t z) x) (IsTaken g a pushed needs c w k (width_of t) (word_of t z) x)
      (leads_then g a (convert_code r t) (wide_code op t) 256 2048 x (IsBrought g a c w k x (primary_of (width_of t)) (converted_word r t (word_of r q)) false) (IsTaken g a pushed needs c w k (width_of t) (word_of t z) x)
      (convert_leads g a (pushed + size_of (width_of t)) needs c w k x placed ready r t (word_of r q) false here (λ h. cc))
      (λ y h. called y h))
      (λ y h. label_leads g a label y (IsTaken g a pushed needs c w k (width_of t) (word_of t z) x) h)

-- ---- over both operands

-- all is kept over what waits, where a call behind it takes that off
pub over_pushed : (g : World) (a : Active) (pushed needs : ℕ) (c c2 : Scene) (w w2 : Placing) (k k2 : Banks) (width : Width) (t u x y : State)
    → IsPushed g a pushed needs c w k width t u → Kept g a c w k u c2 w2 k2 x
    → Ready g a pushed needs c2 w2 k2 y → sp_of y ≡ sp_of x + size_of width → ((m : ℕ) → sp_of x + size_of width ≤ m → IsFree c2.store w2 (At m) → y.mem m ≡ x.mem m)
    → Kept g a c w k t c2 w2 k2 y
over_pushed g a pushed needs c c2 w w2 k k2 width t u x y push h ready off mem = record {
  joins = ready.joins;
  sp = omega (arith, off, h.sp, push.sp);
  frames = h.frames;
  next = h.next;
  bounds = h.bounds;
  grows = h.grows;
  kept = λ m le f. bytes m le f;
  banks = h.banks;
  own_bank = h.own_bank;
  none_pushed = ready.none_pushed;
}
  where
    bytes : (m : ℕ) → sp_of t ≤ m → IsFree c.store w (At m) → (y.mem m ≡ t.mem m) × IsFree c2.store w2 (At m)
    bytes m le f =
        let one = h.kept m (omega (arith, le, push.sp)) f in
        (mem m (omega (arith, le, h.sp, push.sp)) one.1 ∙ one.0 ∙ push.mem m le, one.1)

-- the bytes of a value that waits
pub waiting_is : (width : Width) → waiting width ≡ size_of width
waiting_is Ax = refl
waiting_is Eax = refl

module _ (g : World) (a : Active) (m : Manner) (op : BinaryOp) (t r : IntType) (label needs more_needs pushed : ℕ) (first second : List Item → List Item) (left right : List Line) (placed : IsPlacement g.code g.place) (heavy : m.light ≡ false) (few : m.over ≤ 1000) (plain : is_comparison op ≡ false) (operands : AreOperands op t r) where
  abbrev size : ℕ
  size = size_of (width_of t)

  abbrev push : List Line
  push = push_code (width_of t)

  abbrev end : List Line
  end = (convert_code r t ++ wide_code op t) ++ Label label ∷ []

  abbrev all : List Line
  all = left ++ (push ++ (right ++ end))

  -- behind both operands, where the left one began at the state s and the right one at the state u
  module _ (n weight p : ℕ) (k : List Item) (vs : List Value) (c : Scene) (w : Placing) (b : Banks) (s : State) (rest : RestIn g a m Valued (Number t) n weight k vs (p + length all) c w b s)
      (c1 : Scene) (w1 : Placing) (b1 : Banks) (s1 : State) (va : Value) (done1 : Done g a Valued (Number t) c w b s va c1 w1 b1 s1) (left1 : IsLeft m c s c1 s1) (s2 : State) (push2 : IsPushed g a pushed more_needs c1 w1 b1 (width_of t) s1 s2)
      (c3 : Scene) (w3 : Placing) (b3 : Banks) (s3 : State) (vb : Value) (done3 : Done g a Valued (Number r) c1 w1 b1 s2 vb c3 w3 b3 s3) (left3 : IsLeft m c1 s2 c3 s3) where
    abbrev at : ℕ
    at = p + length left + length push + length right

    ends : at + length end ≡ p + length all
    ends = omega (arith, length-append left (push ++ (right ++ end)), length-append push (right ++ end), length-append right end)

    ready3 : Ready g a (pushed + size) more_needs c3 w3 b3 s3
    ready3 = ready_stays g a (pushed + size) more_needs more_needs c1 c3 w1 w3 b1 b3 s2 s3 (omega arith) push2.ready done3.kept

    waited : number_at (width_of t) s3.mem (sp_of s3) ≡ primary_of (width_of t) s1
    waited = number_waits g a pushed more_needs c1 c3 w1 w3 b1 b3 s2 s3 (width_of t) push2.ready done3.kept ∙ push2.word

    kept_to : (z : ℤ) (y : State) → IsTaken g a pushed more_needs c3 w3 b3 (width_of t) (word_of t z) s3 y → Kept g a c w b s c3 w3 b3 y
    kept_to z y h = kept_goes_on g a c c1 c3 w w1 w3 b b1 b3 s s1 y done1.kept (over_pushed g a pushed more_needs c1 c3 w1 w3 b1 b3 (width_of t) s1 s2 s3 y push2 done3.kept h.ready h.sp h.mem)

    left_to : (y : State) → IsLeft m c s c3 y
    left_to y = left_then m c c1 c3 s s1 y left1 (left_then m c1 c3 c3 s1 s3 y (left_heavy m c1 c3 s2 s3 s1 s3 heavy left3) (left_scene m c3 s3 y heavy))

    of_numbers : (o : ℕ) → o < n → (seen : Seen) → HasAt (lines_of g a) at end → HasTurns g c3.turns (place_in g a at) seen → (x : Value) → binary c3.store op (Number t) (Number r) va vb ≡ Ok x → IsCalculated op t va vb x
        → Follows g o (weight + 2344 + 2600 + m.over + 4000) (Running k (x ∷ vs) c3) (place_in g a at) s3 seen
    of_numbers o lt seen has turned x e h =
        let fits1 : InRange t h.a = subst (MayFit Valued (Number t)) h.left done1.fits in
        let fits3 : InRange r h.b = subst (MayFit Valued (Number r)) h.right done3.fits in
        let result1 : primary_of (width_of t) s1 ≡ word_of t h.a = subst (λ v. ResultIs Valued w1 (width_of t) v s1) h.left done1.result in
        let result3 : primary_of (width_of r) s3 ≡ word_of r h.b = subst (λ v. ResultIs Valued w3 (width_of r) v s3) h.right done3.result in
        let value : Running k (Whole h.z ∷ vs) c3 ≡ Running k (x ∷ vs) c3 = ap (λ v. Running k (v ∷ vs) c3) (sym h.result) in
        subst (λ z. Follows g o (weight + 2344 + 2600 + m.over + 4000) z (place_in g a at) s3 seen) value
        (follows_weaken g o (2304 + (weight + 2600 + m.over)) (weight + 2344 + 2600 + m.over + 4000) (Running k (Whole h.z ∷ vs) c3) (place_in g a at) s3 seen (omega arith)
        (back_leads g a op t r label pushed more_needs placed plain operands c3 w3 b3 s3 ready3 h.a h.b h.z (waited ∙ result1) result3 fits1 fits3 h.is o (weight + 2600 + m.over) at c3.turns (Running k (Whole h.z ∷ vs) c3) seen has turned (λ y after taken turned2.
        let fit : InRange t h.z = result_in op t h.a h.b h.z plain fits1 h.is in
        let both : Done g a Valued (Number t) c w b s (Whole h.z) c3 w3 b3 y = record { kept = kept_to h.z y taken; result = taken.word; fits = fit } in
        subst (λ q. Follows g o (weight + 2600 + m.over) (Running k (Whole h.z ∷ vs) c3) (place_in g a q) y after) (sym ends)
        (rest o (Whole h.z) c3 w3 b3 y after lt both (left_to y) (subst (λ q. HasTurns g c3.turns (place_in g a q) after) ends turned2)))))

    stepped : (o : ℕ) → o < n → (seen : Seen) → HasAt (lines_of g a) at end → HasTurns g c3.turns (place_in g a at) seen → (x : Result Value Why) → binary c3.store op (Number t) (Number r) va vb ≡ x
        → Follows g o (weight + 2344 + 2600 + m.over + 4000) (go_on x k vs c3) (place_in g a at) s3 seen
    stepped o lt seen has turned (Err why) e = nothing_follows g why o (weight + 2344 + 2600 + m.over + 4000) (place_in g a at) s3 seen
    stepped o lt seen has turned (Ok x) e = of_numbers o lt seen has turned x e (is_calculated c3.store op t r va vb x e)

    followed : (j : ℕ) → j ≤ n → (seen : Seen) → HasAt (lines_of g a) at end → HasTurns g c3.turns (place_in g a at) seen → Follows g j (weight + 2344 + 2600 + m.over) (Running (Apply2 op (Number t) (Number r) ∷ k) (vb ∷ va ∷ vs) c3) (place_in g a at) s3 seen
    followed j le seen has turned =
        steps_earn g j (weight + 2344 + 2600 + m.over) (Apply2 op (Number t) (Number r)) k (vb ∷ va ∷ vs) c3 (place_in g a at) s3 seen (ready_is_calm g a (pushed + size) more_needs c3 w3 b3 s3 ready3).calm ready3.joins.output ready3.joins.ended (omega (arith, turned)) (λ o less.
        stepped o (omega (arith, le, less)) seen has turned (binary c3.store op (Number t) (Number r) va vb) refl)

  -- so many bytes wait while the right operand comes
  two_wait : (c : Scene) (w : Placing) (b : Banks) (s : State) → Ready g a (pushed + size) more_needs c w b s → more pushed (waiting (width_of t)) ≡ pushed + size
  two_wait c w b s ready = ap (λ n. (pushed + n) % 65536) (waiting_is (width_of t)) ∙ mod-eq_of_lt (omega (arith, ready.sp, ready.joins.top))

  does : DoesIn g a m Valued (Number t) first needs pushed left → DoesIn g a m Valued (Number r) second more_needs (more pushed (waiting (width_of t))) right
      → DoesIn g a m Valued (Number t) (on_numbers op t r first second) (max needs (1 + more_needs)) pushed all
  does before behind n weight p k vs c w b s seen has ready turns rest =
      let lines = lines_of g a in
      let has1 : HasAt lines (p + length left) (push ++ (right ++ end)) = has_back lines p left (push ++ (right ++ end)) has in
      let has2 : HasAt lines (p + length left + length push) (right ++ end) = has_back lines (p + length left) push (right ++ end) has1 in
      let ready0 : Ready g a pushed needs c w b s = record { joins = ready.joins; sp = ready.sp; room = omega (arith, ready.room); none_pushed = ready.none_pushed } in
      before n weight p (second (Apply2 op (Number t) (Number r) ∷ k)) vs c w b s seen (has_front lines p left (push ++ (right ++ end)) has) ready0 turns (λ j va c1 w1 b1 s1 seen1 lt done1 left1 turned1.
      let ready1 : Ready g a pushed (1 + more_needs) c1 w1 b1 s1 = ready_stays g a pushed (max needs (1 + more_needs)) (1 + more_needs) c c1 w w1 b b1 s s1 (omega arith) ready done1.kept in
      follows_weaken g j (256 + (weight + 2344)) (weight + 2600 + m.over) (Running (second (Apply2 op (Number t) (Number r) ∷ k)) (va ∷ vs) c1) (place_in g a (p + length left)) s1 seen1 (omega arith)
      (push_leads g a pushed more_needs c1 w1 b1 s1 placed ready1 (width_of t) j (weight + 2344) (p + length left) c1.turns (Running (second (Apply2 op (Number t) (Number r) ∷ k)) (va ∷ vs) c1) seen1 (has_front lines (p + length left) push (right ++ end) has1) turned1 (λ s2 seen2 push2 turned2.
      let ready2 : Ready g a (more pushed (waiting (width_of t))) more_needs c1 w1 b1 s2 = subst (λ q. Ready g a q more_needs c1 w1 b1 s2) (sym (two_wait c1 w1 b1 s2 push2.ready)) push2.ready in
      behind j (weight + 2344) (p + length left + length push) (Apply2 op (Number t) (Number r) ∷ k) (va ∷ vs) c1 w1 b1 s2 seen2 (has_front lines (p + length left + length push) right end has2) ready2 turned2 (λ i vb c3 w3 b3 s3 seen3 lt3 done3 left3 turned3.
      followed n weight p k vs c w b s rest c1 w1 b1 s1 va done1 left1 s2 push2 c3 w3 b3 s3 vb done3 left3 i (omega (arith, lt, lt3)) seen3 (has_back lines (p + length left + length push) right end has2) turned3))))

pub stacked_operators_do : StackedOperatorsDo
stacked_operators_do g a m op t r label needs more_needs pushed first second left right placed heavy few plain operands before behind = does g a m op t r label needs more_needs pushed first second left right placed heavy few plain operands before behind
