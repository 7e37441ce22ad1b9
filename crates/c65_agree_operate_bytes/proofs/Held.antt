-- The left operand waits in ptr2.
use Rattle.std.proofs.Common.{◌≡◌, ℕ, ◌+◌, ◌<◌, ◌≤◌, ◌⊎◌, inl, inr, max, List, ◌∷◌, ◌++◌, length, ℤ, Some, true, false, refl, sym, ◌∙◌, subst, arith, length-append}
use Rattle.std.specs.Prelude.{Ok}
use Rattle.c65_base.specs.declared.operators.BinaryOp.{BinaryOp}
use Rattle.c65_ints.specs.declared.types.IntType.{IntType}
use Rattle.c65_ints.specs.Ranges.{InRange}
use Rattle.c65_csem.specs.Places.{is_promoted}
use Rattle.c65_meaning.specs.Store.{Value, Whole, Number}
use Rattle.c65_meaning.specs.Items.{Item, Apply2}
use Rattle.c65_meaning.specs.Operators.{calculated}
use Rattle.c65_meaning.specs.State.{Scene, Running}
use Rattle.c65_code.specs.declared.line.Line.{Line}
use Rattle.c65_code.specs.declared.routine.Width.TheVariants.{Ax}
use Rattle.c65_code.specs.LineState.{Bytes, write, State, ax_of, IsBytes}
use Rattle.c65_code.specs.Placement.{IsPlacement}
use Rattle.c65_code.specs.Rows.{primary_of}
use Rattle.c65_code.specs.Comes.{Seen}
use Rattle.c65_genwide.specs.Wide.{width_of}
use Rattle.c65_genexpr.specs.declared.operands.Operands.TheVariants.{Numbers}
use Rattle.c65_genexpr.specs.declared.operating.Form.{Form}
use Rattle.c65_genexpr.specs.Operating.{left_form, held_form, value_form}
use Rattle.c65_genexpr.specs.Held.{held_low, held_high, keep_code}
use Rattle.c65_agree_store.specs.Stands.{Placing, Banks}
use Rattle.c65_agree_numbers.specs.Words.{word_of}
use Rattle.c65_agree_state.specs.World.{World, Active, lines_of, place_in, IsPlaced, HasAt, HasTurns}
use Rattle.c65_agree_state.specs.Follows.{Follows}
use Rattle.c65_agree_state.specs.Exprs.{Ready, Valued, ResultIs, Kept, Done}
use Rattle.c65_agree_state.proofs.Followed.{follows_weaken}
use Rattle.c65_agree_state.proofs.Nodes.{has_front, has_back, ready_stays}
use Rattle.c65_agree_state.proofs.Parts.{kept_goes_on}
use Rattle.c65_agree_rows.proofs.Quiet.{write_other}
use Rattle.c65_agree_frame.specs.Leads.{Leads}
use Rattle.c65_agree_frame.proofs.Leads.{kept_zero, lines_lead}
use Rattle.c65_agree_load.proofs.Kept.{is_on, kept_later, ready_later}
use Rattle.c65_agree_operate.specs.Manners.{Manner, IsHeld, IsLeft, RestIn, DoesIn}
use Rattle.c65_agree_operate.specs.Laws.{on_numbers}
use Rattle.c65_agree_operate_bytes.specs.Laws.{HeldOperatorsDo}
use Rattle.c65_agree_operate.proofs.Manners.{left_then, dark}
use Rattle.c65_agree_operate.proofs.Lefts.{HasWord}
use Rattle.c65_agree_operate_bytes.proofs.Rights.{HasPair}
use Rattle.c65_agree_operate.proofs.Last.{last_follows}
use Rattle.c65_agree_operate_bytes.proofs.Swapped.{narrow_form, read_is_plain, swapped_leads}

-- ---- AX begins to wait

abbrev pub low_kept : State → Bytes
low_kept t = write t.zp 10 t.regs.a

abbrev pub both_kept : State → Bytes
both_kept t = write (low_kept t) 11 t.regs.x

abbrev pub waiting : State → State
waiting t = record t { zp = both_kept t }

module _ (g : World) (a : Active) (pushed needs : ℕ) (c : Scene) (w : Placing) (k : Banks) (t : State) (placed : IsPlacement g.code g.place) (r : Ready g a pushed needs c w k t) where
  others_stay : (i : ℕ) → (i < 2) ⊎ (20 ≤ i) → both_kept t i ≡ t.zp i
  others_stay i (inl h) = write_other (low_kept t) 11 t.regs.x i (λ e. omega (arith, e, h)) ∙ write_other t.zp 10 t.regs.a i (λ e. omega (arith, e, h))
  others_stay i (inr h) = write_other (low_kept t) 11 t.regs.x i (λ e. omega (arith, e, h)) ∙ write_other t.zp 10 t.regs.a i (λ e. omega (arith, e, h))

  pub keep_leads : Leads g a keep_code 2 t (λ u. (u ≡ waiting t) × IsBytes u)
  keep_leads = lines_lead g a keep_code t placed (is_on g a pushed needs c w k t placed r) (refl, (omega arith, λ h. omega arith), tt, kept_zero t 10 t.regs.a (omega arith), (refl, (omega arith, λ h. omega arith), tt, kept_zero (record t { zp = low_kept t }) 11 t.regs.x (omega arith), tt))

  pub kept_waiting : IsBytes (waiting t) → Kept g a c w k t c w k (waiting t)
  kept_waiting b = kept_later g a pushed needs c w k t placed r t.regs (both_kept t) others_stay b

  pub ready_waiting : IsBytes (waiting t) → Ready g a pushed needs c w k (waiting t)
  ready_waiting b = ready_later g a pushed needs c w k t placed r t.regs (both_kept t) others_stay b

-- ---- the operator

module _ (g : World) (a : Active) (m : Manner) (op : BinaryOp) (t : IntType) (label needs more_needs pushed : ℕ) (form : Form) (first second : List Item → List Item) (left right : List Line) (placed : IsPlacement g.code g.place) (own : IsPlaced (lines_of g a)) (heavy : m.light ≡ false) (few : m.over ≤ 1000) (promoted : is_promoted t ≡ true) (is : held_form op (Numbers t) ≡ Some form) where
  abbrev lit : Manner
  lit = record m { light = true }

  abbrev end : List Line
  end = value_form form label

  abbrev all : List Line
  all = left ++ (keep_code ++ (right ++ end))

  read : left_form op (Numbers t) held_low held_high ≡ Some form
  read = is

  narrow : width_of t ≡ Ax
  narrow = narrow_form op t held_low held_high form read

  module _ (n weight p : ℕ) (k : List Item) (vs : List Value) (c : Scene) (w : Placing) (b : Banks) (s : State) (rest : RestIn g a m Valued (Number t) n weight k vs (p + length all) c w b s)
      (c1 : Scene) (w1 : Placing) (b1 : Banks) (s1 : State) (va : Value) (done1 : Done g a Valued (Number t) c w b s va c1 w1 b1 s1) (left1 : IsLeft m c s c1 s1) (ready1 : Ready g a pushed more_needs c1 w1 b1 s1) (bytes : IsBytes (waiting s1))
      (c3 : Scene) (w3 : Placing) (b3 : Banks) (s3 : State) (vb : Value) (done3 : Done g a Valued (Number t) c1 w1 b1 (waiting s1) vb c3 w3 b3 s3) (left3 : IsLeft lit c1 (waiting s1) c3 s3) where
    abbrev at : ℕ
    at = p + length left + length keep_code + length right

    ends : at + length end ≡ p + length all
    ends = omega (arith, length-append left (keep_code ++ (right ++ end)), length-append keep_code (right ++ end), length-append right end)

    ready3 : Ready g a pushed more_needs c3 w3 b3 s3
    ready3 = ready_stays g a pushed more_needs more_needs c1 c3 w1 w3 b1 b3 (waiting s1) s3 (omega arith) (ready_waiting g a pushed more_needs c1 w1 b1 s1 placed ready1 bytes) done3.kept

    kept3 : Kept g a c w b s c3 w3 b3 s3
    kept3 = kept_goes_on g a c c1 c3 w w1 w3 b b1 b3 s s1 s3 done1.kept (kept_goes_on g a c1 c1 c3 w1 w1 w3 b1 b1 b3 s1 (waiting s1) s3 (kept_waiting g a pushed more_needs c1 w1 b1 s1 placed ready1 bytes) done3.kept)

    left_both : IsLeft m c s c3 s3
    left_both =
        let scene : IsLeft m c1 s1 c3 s3 = record { scene = left3.scene; held = dark m.light (IsHeld s1 s3) heavy } in
        left_then m c c1 c3 s s1 s3 left1 scene

    pair : HasPair g s3 held_low held_high (ax_of s1)
    pair =
        let low : s3.zp 10 ≡ s1.regs.a = left3.held.low in
        let high : s3.zp 11 ≡ s1.regs.x = left3.held.high in
        let small = ready1.joins.bytes in
        record { may = omega arith; may2 = omega arith; small = omega (arith, low, small.a); small2 = omega (arith, high, small.x); word = omega (arith, low, high) }

    operates : (x y z : ℤ) → va ≡ Whole x → vb ≡ Whole y → InRange t x → InRange t y → calculated op t x y ≡ Ok (Whole z) → Leads g a end 2560 s3 (HasWord g a m t c3 w3 b3 s3 (word_of t z))
    operates x y z e f fits1 fits2 calculates =
        let result1 : primary_of (width_of t) s1 ≡ word_of t x = subst (λ v. ResultIs Valued w1 (width_of t) v s1) e done1.result in
        let result3 : primary_of (width_of t) s3 ≡ word_of t y = subst (λ v. ResultIs Valued w3 (width_of t) v s3) f done3.result in
        let ax : ax_of s1 ≡ word_of t x = subst (λ width. primary_of width s1 ≡ word_of t x) narrow result1 in
        swapped_leads g a m op t label pushed more_needs held_low held_high form placed own promoted ((λ h. omega (arith, h)), (λ h. omega (arith, h))) ((λ h. omega (arith, h)), (λ h. omega (arith, h))) c3 w3 b3 s3 x y z ready3 result3 (subst (HasPair g s3 held_low held_high) ax pair) fits1 fits2 calculates read

    followed : (i : ℕ) → i ≤ n → (seen : Seen) → HasAt (lines_of g a) at end → HasTurns g c3.turns (place_in g a at) seen → Follows g i (weight + 2598 + 2600 + m.over) (Running (Apply2 op (Number t) (Number t) ∷ k) (vb ∷ va ∷ vs) c3) (place_in g a at) s3 seen
    followed i le seen has turned =
        last_follows g a m op t t few (read_is_plain op t held_low held_high form read) pushed more_needs n weight (p + length all) at end ends k vs c w b s rest has c3 w3 b3 s3 ready3 kept3 left_both va vb done1.fits done3.fits operates seen turned (weight + 2598 + 2600 + m.over) (omega arith) i le

  does : DoesIn g a m Valued (Number t) first needs pushed left → DoesIn g a lit Valued (Number t) second more_needs pushed right → DoesIn g a m Valued (Number t) (on_numbers op t t first second) (max needs (1 + more_needs)) pushed all
  does before behind n weight p k vs c w b s seen has ready turns rest =
      let lines = lines_of g a in
      let has1 : HasAt lines (p + length left) (keep_code ++ (right ++ end)) = has_back lines p left (keep_code ++ (right ++ end)) has in
      let has2 : HasAt lines (p + length left + length keep_code) (right ++ end) = has_back lines (p + length left) keep_code (right ++ end) has1 in
      let ready0 : Ready g a pushed needs c w b s = record { joins = ready.joins; sp = ready.sp; room = omega (arith, ready.room); none_pushed = ready.none_pushed } in
      before n weight p (second (Apply2 op (Number t) (Number t) ∷ k)) vs c w b s seen (has_front lines p left (keep_code ++ (right ++ end)) has) ready0 turns (λ j va c1 w1 b1 s1 seen1 lt done1 left1 turned1.
      let ready1 : Ready g a pushed more_needs c1 w1 b1 s1 = ready_stays g a pushed (max needs (1 + more_needs)) more_needs c c1 w w1 b b1 s s1 (omega arith) ready done1.kept in
      follows_weaken g j (2 + (weight + 2598)) (weight + 2600 + m.over) (Running (second (Apply2 op (Number t) (Number t) ∷ k)) (va ∷ vs) c1) (place_in g a (p + length left)) s1 seen1 (omega arith)
      (keep_leads g a pushed more_needs c1 w1 b1 s1 placed ready1 j (weight + 2598) (p + length left) c1.turns (Running (second (Apply2 op (Number t) (Number t) ∷ k)) (va ∷ vs) c1) seen1 (has_front lines (p + length left) keep_code (right ++ end) has1) turned1 (λ s2 seen2 kept2 turned2.
      let bytes : IsBytes (waiting s1) = subst IsBytes kept2.0 kept2.1 in
      subst (λ z. Follows g j (weight + 2598) (Running (second (Apply2 op (Number t) (Number t) ∷ k)) (va ∷ vs) c1) (place_in g a (p + length left + length keep_code)) z seen2) (sym kept2.0)
      (behind j (weight + 2598) (p + length left + length keep_code) (Apply2 op (Number t) (Number t) ∷ k) (va ∷ vs) c1 w1 b1 (waiting s1) seen2 (has_front lines (p + length left + length keep_code) right end has2) (ready_waiting g a pushed more_needs c1 w1 b1 s1 placed ready1 bytes) turned2 (λ i vb c3 w3 b3 s3 seen3 lt3 done3 left3 turned3.
      followed n weight p k vs c w b s rest c1 w1 b1 s1 va done1 left1 ready1 bytes c3 w3 b3 s3 vb done3 left3 i (omega (arith, lt, lt3)) seen3 (has_back lines (p + length left + length keep_code) right end has2) turned3)))))

pub held_operators_do : HeldOperatorsDo
held_operators_do g a m op t label needs more_needs pushed form first second left right placed own heavy few promoted is before behind = does g a m op t label needs more_needs pushed form first second left right placed own heavy few promoted is before behind
