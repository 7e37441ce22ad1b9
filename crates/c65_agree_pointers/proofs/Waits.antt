-- Operators of any shapes whose left operand waits in ptr2 or on the software stack while the right one comes.
use Rattle.std.proofs.Common.{◌≡◌, ℕ, ◌+◌, ◌-◌, ◌*◌, ◌<◌, ◌≤◌, max, List, ◌∷◌, ◌++◌, length, true, false, refl, sym, ap, ◌∙◌, subst, arith, length-append}
use Rattle.std.specs.Prelude.{Ok}
use Rattle.std.proofs.Math.Nat.{mod-eq_of_lt}
use Rattle.c65_base.specs.declared.operators.BinaryOp.{BinaryOp}
use Rattle.c65_meaning.specs.Store.{Value, Shape}
use Rattle.c65_meaning.specs.Items.{Item, Apply2}
use Rattle.c65_meaning.specs.Operators.{binary}
use Rattle.c65_meaning.specs.State.{Scene, Running, soft_sum}
use Rattle.c65_code.specs.declared.line.Line.{Line}
use Rattle.c65_code.specs.declared.routine.Width.TheVariants.{Ax}
use Rattle.c65_code.specs.LineState.{State, sp_of, ax_of, IsBytes}
use Rattle.c65_code.specs.Placement.{IsPlacement}
use Rattle.c65_code.specs.Rows.{number_at}
use Rattle.c65_genload.specs.Conversions.{waiting}
use Rattle.c65_genexpr.specs.Held.{held_low, held_high, keep_code}
use Rattle.c65_genexpr.specs.Places.{more}
use Rattle.c65_agree_store.specs.Stands.{At, Placing, Banks, Grows, IsFree}
use Rattle.c65_agree_state.specs.World.{World, Active, lines_of, place_in, HasAt}
use Rattle.c65_agree_state.specs.Follows.{Follows}
use Rattle.c65_agree_state.specs.Exprs.{Ready, Valued, MayFit, ResultIs, Kept, width_in}
use Rattle.c65_agree_state.proofs.Followed.{follows_weaken}
use Rattle.c65_agree_state.proofs.Nodes.{has_front, has_back, ready_stays}
use Rattle.c65_agree_state.proofs.Parts.{kept_goes_on}
use Rattle.c65_agree_frame.specs.Leads.{Leads}
use Rattle.c65_agree_frame.proofs.Leads.{leads_as}
use Rattle.c65_agree_operate.specs.Manners.{Manner, IsHeld, IsLeft, DoesIn}
use Rattle.c65_agree_operate.proofs.Manners.{left_then, left_scene, left_heavy, dark}
use Rattle.c65_agree_operate.proofs.Behind.{IsGiven}
use Rattle.c65_agree_operate.proofs.Routines.{number_waits}
use Rattle.c65_agree_operate_bytes.proofs.Rights.{HasPair}
use Rattle.c65_agree_operate_bytes.proofs.Held.{waiting as kept_word, keep_leads, kept_waiting, ready_waiting}
use Rattle.c65_agree_quick.specs.Laws.{HasTwo}
use Rattle.c65_agree_pointers.specs.Sums.{on_both}
use Rattle.c65_agree_pointers.proofs.Last.{IsEnded, last_follows}
use Rattle.c65_agree_pointers.proofs.Walks.{GivesFit, ended}

-- ---- in ptr2

module _ (g : World) (a : Active) (m : Manner) (op : BinaryOp) (f h r : Shape) (needs more_needs pushed : ℕ) (first second : List Item → List Item) (left right end : List Line) (placed : IsPlacement g.code g.place) (heavy : m.light ≡ false) (fits : GivesFit op f h r) (narrow : width_in f ≡ Ax)
    (leads : (c1 : Scene) (w1 : Placing) (s1 : State) (c : Scene) (w : Placing) (b : Banks) (u : State) (va vb x : Value) → Grows w1 w → ax_of s1 < 65536 → Ready g a pushed (1 + more_needs) c w b u → MayFit Valued f va → ResultIs Valued w1 Ax va s1 → HasPair g u held_low held_high (ax_of s1)
    → MayFit Valued h vb → ResultIs Valued w (width_in h) vb u → binary c.store op f h va vb ≡ Ok x → Leads g a end 2560 u (IsGiven g a m r c w b u x)) where
  abbrev lit : Manner
  lit = record m { light = true }

  abbrev all : List Line
  all = left ++ (keep_code ++ (right ++ end))

  pair : (u1 u3 : State) → IsBytes u1 → IsHeld (kept_word u1) u3 → HasPair g u3 held_low held_high (ax_of u1)
  pair u1 u3 small held =
      let low : u3.zp 10 ≡ u1.regs.a = held.low in
      let high : u3.zp 11 ≡ u1.regs.x = held.high in
      record { may = omega arith; may2 = omega arith; small = omega (arith, low, small.a); small2 = omega (arith, high, small.x); word = omega (arith, low, high) }

  pub left_held_there : DoesIn g a m Valued f first needs pushed left → DoesIn g a lit Valued h second more_needs pushed right → DoesIn g a m Valued r (on_both op f h first second) (max needs (1 + more_needs)) pushed all
  left_held_there before behind n weight p k vs c w b s seen has ready turns rest =
      let lines = lines_of g a in
      let has1 : HasAt lines (p + length left) (keep_code ++ (right ++ end)) = has_back lines p left (keep_code ++ (right ++ end)) has in
      let has2 : HasAt lines (p + length left + length keep_code) (right ++ end) = has_back lines (p + length left) keep_code (right ++ end) has1 in
      let at : ℕ = p + length left + length keep_code + length right in
      let ends : at + length end ≡ p + length all = omega (arith, length-append left (keep_code ++ (right ++ end)), length-append keep_code (right ++ end), length-append right end) in
      let ready0 : Ready g a pushed needs c w b s = record { joins = ready.joins; sp = ready.sp; room = omega (arith, ready.room); none_pushed = ready.none_pushed } in
      before n weight p (second (Apply2 op f h ∷ k)) vs c w b s seen (has_front lines p left (keep_code ++ (right ++ end)) has) ready0 turns (λ j va c1 w1 b1 s1 seen1 lt done1 left1 turned1.
      let ready1 : Ready g a pushed (1 + more_needs) c1 w1 b1 s1 = ready_stays g a pushed (max needs (1 + more_needs)) (1 + more_needs) c c1 w w1 b b1 s s1 (omega arith) ready done1.kept in
      let result1 : ResultIs Valued w1 Ax va s1 = subst (λ width. ResultIs Valued w1 width va s1) narrow done1.result in
      follows_weaken g j (2 + (weight + 2598)) (weight + 2600 + m.over) (Running (second (Apply2 op f h ∷ k)) (va ∷ vs) c1) (place_in g a (p + length left)) s1 seen1 (omega arith)
      (keep_leads g a pushed (1 + more_needs) c1 w1 b1 s1 placed ready1 j (weight + 2598) (p + length left) c1.turns (Running (second (Apply2 op f h ∷ k)) (va ∷ vs) c1) seen1 (has_front lines (p + length left) keep_code (right ++ end) has1) turned1 (λ s2 seen2 kept2 turned2.
      let bytes : IsBytes (kept_word s1) = subst IsBytes kept2.0 kept2.1 in
      let ready2 : Ready g a pushed (1 + more_needs) c1 w1 b1 (kept_word s1) = ready_waiting g a pushed (1 + more_needs) c1 w1 b1 s1 placed ready1 bytes in
      let ready_less : Ready g a pushed more_needs c1 w1 b1 (kept_word s1) = record { joins = ready2.joins; sp = ready2.sp; room = omega (arith, ready2.room); none_pushed = ready2.none_pushed } in
      subst (λ z. Follows g j (weight + 2598) (Running (second (Apply2 op f h ∷ k)) (va ∷ vs) c1) (place_in g a (p + length left + length keep_code)) z seen2) (sym kept2.0)
      (behind j (weight + 2598) (p + length left + length keep_code) (Apply2 op f h ∷ k) (va ∷ vs) c1 w1 b1 (kept_word s1) seen2 (has_front lines (p + length left + length keep_code) right end has2) ready_less turned2 (λ i vb c3 w3 b3 s3 seen3 lt3 done3 left3 turned3.
      let ready3 : Ready g a pushed (1 + more_needs) c3 w3 b3 s3 = ready_stays g a pushed (1 + more_needs) (1 + more_needs) c1 c3 w1 w3 b1 b3 (kept_word s1) s3 (omega arith) ready2 done3.kept in
      let kept3 : Kept g a c w b s c3 w3 b3 s3 = kept_goes_on g a c c1 c3 w w1 w3 b b1 b3 s s1 s3 done1.kept (kept_goes_on g a c1 c1 c3 w1 w1 w3 b1 b1 b3 s1 (kept_word s1) s3 (kept_waiting g a pushed (1 + more_needs) c1 w1 b1 s1 placed ready1 bytes) done3.kept) in
      let scene : IsLeft m c1 s1 c3 s3 = record { scene = left3.scene; held = dark m.light (IsHeld s1 s3) heavy } in
      let small = ready1.joins.bytes in
      last_follows g a m op f h r n weight (p + length all) at 2560 pushed (1 + more_needs) end ends k vs c w b s rest (has_back lines (p + length left + length keep_code) right end has2) c3 w3 b3 s3 ready3 va vb
      (λ x e. ended g a m r c c3 w w3 b b3 s s3 x end 2560 kept3 (left_then m c c1 c3 s s1 s3 left1 scene) (fits c3 va vb x done1.fits e)
      (leads c1 w1 s1 c3 w3 b3 s3 va vb x done3.kept.grows (omega (arith, small.a, small.x)) ready3 done1.fits result1 (pair s1 s3 small left3.held) done3.fits done3.result e))
      seen3 turned3 (weight + 2598 + 2600 + m.over) (omega arith) i (omega (arith, lt, lt3)))))))

-- ---- on the software stack

-- a word of the value waits at sp, and all above it that is free is as before
pub record IsPut (g : World) (a : Active) (pushed needs : ℕ) (c : Scene) (w : Placing) (b : Banks) (Waits : Placing → Value → ℕ → Type 0) (v : Value) (t u : State) : Type 0 where
  pub ready : Ready g a (pushed + 2) needs c w b u
  pub sp : sp_of u + 2 ≡ sp_of t
  pub mem : (n : ℕ) → sp_of t ≤ n → IsFree c.store w (At n) → u.mem n ≡ t.mem n
  pub word : Waits w v (number_at Ax u.mem (sp_of u))

-- it is taken off, and the operator's value is there
pub record IsPopped (g : World) (a : Active) (pushed needs : ℕ) (c : Scene) (w : Placing) (b : Banks) (r : Shape) (x : Value) (t u : State) : Type 0 where
  pub ready : Ready g a pushed needs c w b u
  pub sp : sp_of u ≡ sp_of t + 2
  pub mem : (n : ℕ) → sp_of t + 2 ≤ n → IsFree c.store w (At n) → u.mem n ≡ t.mem n
  pub result : ResultIs Valued w (width_in r) x u

-- all is kept over what waits
over_put : (g : World) (a : Active) (pushed needs : ℕ) (c c2 : Scene) (w w2 : Placing) (b b2 : Banks) (Waits : Placing → Value → ℕ → Type 0) (v x : Value) (r : Shape) (t u y z : State)
    → IsPut g a pushed needs c w b Waits v t u → Kept g a c w b u c2 w2 b2 y → IsPopped g a pushed needs c2 w2 b2 r x y z → Kept g a c w b t c2 w2 b2 z
over_put g a pushed needs c c2 w w2 b b2 Waits v x r t u y z put k popped = record {
  joins = popped.ready.joins;
  sp = omega (arith, popped.sp, k.sp, put.sp);
  frames = k.frames;
  next = k.next;
  bounds = k.bounds;
  grows = k.grows;
  kept = λ n le free. bytes n le free;
  banks = k.banks;
  own_bank = k.own_bank;
  none_pushed = popped.ready.none_pushed;
}
  where
    bytes : (n : ℕ) → sp_of t ≤ n → IsFree c.store w (At n) → (z.mem n ≡ t.mem n) × IsFree c2.store w2 (At n)
    bytes n le free =
        let one = k.kept n (omega (arith, le, put.sp)) free in
        (popped.mem n (omega (arith, le, k.sp, put.sp)) one.1 ∙ one.0 ∙ put.mem n le free, one.1)

module _ (g : World) (a : Active) (m : Manner) (op : BinaryOp) (f h r : Shape) (needs more_needs pushed put_cost cost : ℕ) (first second : List Item → List Item) (left mid right end : List Line) (placed : IsPlacement g.code g.place) (heavy : m.light ≡ false) (cheap : put_cost ≤ 2600) (enough : put_cost + cost ≤ 6600) (fits : GivesFit op f h r) (Waits : Placing → Value → ℕ → Type 0)
    (puts : (c : Scene) (w : Placing) (b : Banks) (u : State) (v : Value) → Ready g a pushed (1 + more_needs) c w b u → MayFit Valued f v → ResultIs Valued w (width_in f) v u → Leads g a mid put_cost u (IsPut g a pushed more_needs c w b Waits v u))
    (leads : (w1 : Placing) (c : Scene) (w : Placing) (b : Banks) (u : State) (va vb x : Value) → Grows w1 w → Ready g a (pushed + 2) more_needs c w b u → HasTwo a more_needs c u → MayFit Valued f va → Waits w1 va (number_at Ax u.mem (sp_of u))
    → MayFit Valued h vb → ResultIs Valued w (width_in h) vb u → binary c.store op f h va vb ≡ Ok x → Leads g a end cost u (IsPopped g a pushed more_needs c w b r x u)) where
  abbrev lines : List Line
  lines = left ++ (mid ++ (right ++ end))

  two_wait : (c : Scene) (w : Placing) (b : Banks) (u : State) → Ready g a (pushed + 2) more_needs c w b u → more pushed (waiting Ax) ≡ pushed + 2
  two_wait c w b u ready = mod-eq_of_lt (omega (arith, ready.sp, ready.joins.top))

  pub left_put : DoesIn g a m Valued f first needs pushed left → DoesIn g a m Valued h second more_needs (more pushed (waiting Ax)) right → DoesIn g a m Valued r (on_both op f h first second) (max needs (1 + more_needs)) pushed lines
  left_put before behind n weight p k vs c w b s seen has ready turns rest =
      let code = lines_of g a in
      let has1 : HasAt code (p + length left) (mid ++ (right ++ end)) = has_back code p left (mid ++ (right ++ end)) has in
      let has2 : HasAt code (p + length left + length mid) (right ++ end) = has_back code (p + length left) mid (right ++ end) has1 in
      let at : ℕ = p + length left + length mid + length right in
      let ends : at + length end ≡ p + length lines = omega (arith, length-append left (mid ++ (right ++ end)), length-append mid (right ++ end), length-append right end) in
      let ready0 : Ready g a pushed needs c w b s = record { joins = ready.joins; sp = ready.sp; room = omega (arith, ready.room); none_pushed = ready.none_pushed } in
      before n weight p (second (Apply2 op f h ∷ k)) vs c w b s seen (has_front code p left (mid ++ (right ++ end)) has) ready0 turns (λ j va c1 w1 b1 s1 seen1 lt done1 left1 turned1.
      let ready1 : Ready g a pushed (1 + more_needs) c1 w1 b1 s1 = ready_stays g a pushed (max needs (1 + more_needs)) (1 + more_needs) c c1 w w1 b b1 s s1 (omega arith) ready done1.kept in
      follows_weaken g j (put_cost + (weight + (2600 - put_cost))) (weight + 2600 + m.over) (Running (second (Apply2 op f h ∷ k)) (va ∷ vs) c1) (place_in g a (p + length left)) s1 seen1 (omega (arith, cheap))
      (puts c1 w1 b1 s1 va ready1 done1.fits done1.result j (weight + (2600 - put_cost)) (p + length left) c1.turns (Running (second (Apply2 op f h ∷ k)) (va ∷ vs) c1) seen1 (has_front code (p + length left) mid (right ++ end) has1) turned1 (λ s2 seen2 put turned2.
      let ready2 : Ready g a (more pushed (waiting Ax)) more_needs c1 w1 b1 s2 = subst (λ q. Ready g a q more_needs c1 w1 b1 s2) (sym (two_wait c1 w1 b1 s2 put.ready)) put.ready in
      behind j (weight + (2600 - put_cost)) (p + length left + length mid) (Apply2 op f h ∷ k) (va ∷ vs) c1 w1 b1 s2 seen2 (has_front code (p + length left + length mid) right end has2) ready2 turned2 (λ i vb c3 w3 b3 s3 seen3 lt3 done3 left3 turned3.
      let ready3 : Ready g a (pushed + 2) more_needs c3 w3 b3 s3 = ready_stays g a (pushed + 2) more_needs more_needs c1 c3 w1 w3 b1 b3 s2 s3 (omega arith) put.ready done3.kept in
      let costs : soft_sum c3.frames ≡ soft_sum c1.frames = ap soft_sum done3.kept.frames in
      let two : HasTwo a more_needs c3 s3 = omega (arith, ready1.room, put.sp, done3.kept.sp, costs) in
      let waited : number_at Ax s3.mem (sp_of s3) ≡ number_at Ax s2.mem (sp_of s2) = number_waits g a pushed more_needs c1 c3 w1 w3 b1 b3 s2 s3 Ax put.ready done3.kept in
      let word : Waits w1 va (number_at Ax s3.mem (sp_of s3)) = subst (Waits w1 va) (sym waited) put.word in
      last_follows g a m op f h r n weight (p + length lines) at cost (pushed + 2) more_needs end ends k vs c w b s rest (has_back code (p + length left + length mid) right end has2) c3 w3 b3 s3 ready3 va vb
      (λ x e. leads_as g a end cost cost s3 (IsPopped g a pushed more_needs c3 w3 b3 r x s3) (IsEnded g a m r c w b s x c3 w3 b3) (omega arith)
      (λ y d. record {
        done = record { kept = kept_goes_on g a c c1 c3 w w1 w3 b b1 b3 s s1 y done1.kept (over_put g a pushed more_needs c1 c3 w1 w3 b1 b3 Waits va x r s1 s2 s3 y put done3.kept d); result = d.result; fits = fits c3 va vb x done1.fits e };
        left = left_then m c c1 c3 s s1 y left1 (left_then m c1 c3 c3 s1 s3 y (left_heavy m c1 c3 s2 s3 s1 s3 heavy left3) (left_scene m c3 s3 y heavy));
      })
      (leads w1 c3 w3 b3 s3 va vb x done3.kept.grows ready3 two done1.fits word done3.fits done3.result e))
      seen3 turned3 (weight + (2600 - put_cost) + 2600 + m.over) (omega (arith, cheap, enough)) i (omega (arith, lt, lt3))))))
