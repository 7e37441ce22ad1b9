-- Sums whose operands are gone through, and whose word goes to ptr1.
use Rattle.std.proofs.Common.{◌≡◌, ℕ, ◌+◌, ◌<◌, ◌≤◌, max, List, ◌∷◌, ◌++◌, length, Bool, true, refl, sym, subst, arith, length-append}
use Rattle.std.specs.Prelude.{Result, Ok, Err}
use Rattle.c65_base.specs.declared.operators.BinaryOp.TheVariants as ops
use Rattle.c65_meaning.specs.Why.{Why}
use Rattle.c65_meaning.specs.Store.{Value, Shape}
use Rattle.c65_meaning.specs.Fits.{Fits}
use Rattle.c65_meaning.specs.Items.{Item, Apply2}
use Rattle.c65_meaning.specs.Operators.{binary}
use Rattle.c65_meaning.specs.State.{Scene, Running}
use Rattle.c65_meaning.specs.Step.{go_on}
use Rattle.c65_code.specs.declared.line.Line.{Line}
use Rattle.c65_code.specs.declared.routine.Width.TheVariants.{Ax}
use Rattle.c65_code.specs.LineState.{State, ax_of, IsBytes}
use Rattle.c65_code.specs.Placement.{IsPlacement}
use Rattle.c65_code.specs.Comes.{Seen}
use Rattle.c65_genload.specs.declared.places.Place.TheVariants.{Far}
use Rattle.c65_gendirect.specs.declared.direct.Direct.{Direct}
use Rattle.c65_genexpr.specs.Held.{held_low, held_high, keep_code}
use Rattle.c65_agree_store.specs.Stands.{Placing, Banks, Grows}
use Rattle.c65_agree_state.specs.World.{World, Active, lines_of, place_in, HasAt, HasTurns}
use Rattle.c65_agree_state.specs.Follows.{Follows}
use Rattle.c65_agree_state.specs.Exprs.{Ready, Valued, MayFit, ResultIs, Kept, Does, width_in}
use Rattle.c65_agree_state.proofs.Followed.{follows_weaken, steps_earn, ready_is_calm}
use Rattle.c65_agree_state.proofs.Nodes.{has_front, has_back, ready_stays}
use Rattle.c65_agree_state.proofs.Parts.{kept_goes_on}
use Rattle.c65_agree_rows.proofs.Quiet.{nothing_follows}
use Rattle.c65_agree_frame.specs.Leads.{Leads}
use Rattle.c65_agree_direct.specs.Operands.{HasBytes}
use Rattle.c65_agree_operate.specs.Manners.{usual, IsHeld, DoesIn}
use Rattle.c65_agree_operate_bytes.specs.Laws.{IsReadBehind}
use Rattle.c65_agree_operate_bytes.proofs.Held.{waiting as kept_word, keep_leads, kept_waiting, ready_waiting}
use Rattle.c65_agree_operate_bytes.proofs.Rights.{HasPair}
use Rattle.c65_agree_pointers.specs.Sums.{on_both}
use Rattle.c65_agree_pointers.proofs.Walks.{IsReadAt, read_takes_none}
use Rattle.c65_agree_structures.specs.Bases.{IsToldBy}
use Rattle.c65_agree_access.specs.Pointed.{with_pointer, TellsPointed}

-- the sum's place is told by ptr1
pub record IsPointing (g : World) (a : Active) (c : Scene) (w : Placing) (b : Banks) (u : State) (x : Value) (y : State) : Type 0 where
  pub kept : Kept g a c w b u c w b y
  pub told : IsToldBy g a (Far 0) c w (with_pointer y) x

-- ---- the step of the sum

module _ (g : World) (a : Active) (f h : Shape) (n weight end at pushed needs : ℕ) (ls : List Line) (ends : at + length ls ≡ end) (k : List Item) (vs : List Value) (c : Scene) (w : Placing) (b : Banks) (s : State)
    (rest : (j : ℕ) (v : Value) (c2 : Scene) (w2 : Placing) (b2 : Banks) (u : State) (later : Seen) → j < n → Kept g a c w b s c2 w2 b2 u → IsToldBy g a (Far 0) c2 w2 (with_pointer u) v → HasTurns g c2.turns (place_in g a end) later → Follows g j (weight + 2500) (Running k (v ∷ vs) c2) (place_in g a end) u later)
    (has : HasAt (lines_of g a) at ls) (c2 : Scene) (w2 : Placing) (b2 : Banks) (u : State) (kept : Kept g a c w b s c2 w2 b2 u) (ready : Ready g a pushed needs c2 w2 b2 u) (va vb : Value)
    (leads : (x : Value) → binary c2.store ops.Add f h va vb ≡ Ok x → Leads g a ls 2560 u (IsPointing g a c2 w2 b2 u x)) (seen : Seen) (turned : HasTurns g c2.turns (place_in g a at) seen) (more : ℕ) (enough : weight + 1060 ≤ more) where
  stepped : (o : ℕ) → o < n → (x : Result Value Why) → binary c2.store ops.Add f h va vb ≡ x → Follows g o (more + 4000) (go_on x k vs c2) (place_in g a at) u seen
  stepped o lt (Err why) e = nothing_follows g why o (more + 4000) (place_in g a at) u seen
  stepped o lt (Ok x) e =
      follows_weaken g o (2560 + (weight + 2500)) (more + 4000) (Running k (x ∷ vs) c2) (place_in g a at) u seen (omega (arith, enough))
      (leads x e o (weight + 2500) at c2.turns (Running k (x ∷ vs) c2) seen has turned (λ y after d turned2.
      subst (λ q. Follows g o (weight + 2500) (Running k (x ∷ vs) c2) (place_in g a q) y after) (sym ends)
      (rest o x c2 w2 b2 y after lt (kept_goes_on g a c c2 c2 w w2 w2 b b2 b2 s u y kept d.kept) d.told (subst (λ q. HasTurns g c2.turns (place_in g a q) after) ends turned2))))

  last_points : (i : ℕ) → i ≤ n → Follows g i more (Running (Apply2 ops.Add f h ∷ k) (vb ∷ va ∷ vs) c2) (place_in g a at) u seen
  last_points i le =
      steps_earn g i more (Apply2 ops.Add f h) k (vb ∷ va ∷ vs) c2 (place_in g a at) u seen (ready_is_calm g a pushed needs c2 w2 b2 u ready).calm ready.joins.output ready.joins.ended (omega (arith, turned)) (λ o less.
      stepped o (omega (arith, le, less)) (binary c2.store ops.Add f h va vb) refl)

-- ---- the right operand is read where it lies

module _ (g : World) (a : Active) (f h : Shape) (needs more_needs pushed : ℕ) (first second : List Item → List Item) (left ls : List Line) (d : Direct) (reads : IsReadBehind g a true pushed h second d)
    (leads : (c : Scene) (w : Placing) (b : Banks) (u : State) (va vb x : Value) → Ready g a pushed (1 + more_needs) c w b u → MayFit Valued f va → ResultIs Valued w (width_in f) va u → Fits h vb → IsReadAt g a pushed h d c w u vb → binary c.store ops.Add f h va vb ≡ Ok x → Leads g a ls 2560 u (IsPointing g a c w b u x)) where
  pub right_points : Does g a Valued f first needs pushed left → TellsPointed g a (on_both ops.Add f h first second) (max needs (1 + more_needs)) pushed (Far 0) (left ++ ls)
  right_points before n weight p k vs c w b s seen has ready turns rest =
      let ready0 : Ready g a pushed needs c w b s = record { joins = ready.joins; sp = ready.sp; room = omega (arith, ready.room); none_pushed = ready.none_pushed } in
      let ends : p + length left + length ls ≡ p + length (left ++ ls) = omega (arith, length-append left ls) in
      before n weight p (second (Apply2 ops.Add f h ∷ k)) vs c w b s seen (has_front (lines_of g a) p left ls has) ready0 turns (λ j va c1 w1 b1 s1 seen1 lt done1 turned1.
      let ready1 : Ready g a pushed (1 + more_needs) c1 w1 b1 s1 = ready_stays g a pushed (max needs (1 + more_needs)) (1 + more_needs) c c1 w w1 b b1 s s1 (omega arith) ready done1.kept in
      read_takes_none g a pushed h second d reads (1 + more_needs) j (weight + 2600) (Apply2 ops.Add f h ∷ k) (va ∷ vs) c1 w1 b1 (place_in g a (p + length left)) s1 seen1 ready1 turned1 (λ i vb lt2 fit so.
      last_points g a f h n weight (p + length (left ++ ls)) (p + length left) pushed (1 + more_needs) ls ends k vs c w b s rest (has_back (lines_of g a) p left ls has) c1 w1 b1 s1 done1.kept ready1 va vb
      (λ x e. leads c1 w1 b1 s1 va vb x ready1 done1.fits done1.result fit so e) seen1 turned1 (weight + 2600 + 4000) (omega arith) i (omega (arith, lt, lt2))))

-- ---- the left operand is read behind the right one

module _ (g : World) (a : Active) (pure : Bool) (f h : Shape) (needs more_needs pushed : ℕ) (d : Direct) (first second : List Item → List Item) (right ls : List Line) (reads : IsReadBehind g a pure pushed f first d)
    (leads : (c : Scene) (w : Placing) (b : Banks) (u : State) (va vb x : Value) → Ready g a pushed (1 + more_needs) c w b u → Fits f va → ((needs2 : ℕ) (y : State) → Ready g a pushed needs2 c w b y → HasBytes g c.store w y (width_in f) d va) → MayFit Valued h vb → ResultIs Valued w (width_in h) vb u → binary c.store ops.Add f h va vb ≡ Ok x → Leads g a ls 2560 u (IsPointing g a c w b u x)) where
  pub left_points : DoesIn g a (record usual { pure = pure }) Valued h second more_needs pushed right → TellsPointed g a (on_both ops.Add f h first second) (max needs (1 + more_needs)) pushed (Far 0) (right ++ ls)
  left_points behind n weight p k vs c w b s seen has ready turns rest =
      let ready0 : Ready g a pushed (1 + more_needs) c w b s = record { joins = ready.joins; sp = ready.sp; room = omega (arith, ready.room); none_pushed = ready.none_pushed } in
      let ready1 : Ready g a pushed more_needs c w b s = record { joins = ready.joins; sp = ready.sp; room = omega (arith, ready.room); none_pushed = ready.none_pushed } in
      let ends : p + length right + length ls ≡ p + length (right ++ ls) = omega (arith, length-append right ls) in
      reads more_needs n weight (second (Apply2 ops.Add f h ∷ k)) vs c w b (place_in g a p) s seen ready1 turns (λ j va lt fit told.
      follows_weaken g j weight (weight + 4000) (Running (second (Apply2 ops.Add f h ∷ k)) (va ∷ vs) c) (place_in g a p) s seen (omega arith)
      (behind j weight p (Apply2 ops.Add f h ∷ k) (va ∷ vs) c w b s seen (has_front (lines_of g a) p right ls has) ready1 turns (λ i vb c3 w3 b3 s3 seen3 lt3 done3 left3 turned3.
      let ready3 : Ready g a pushed (1 + more_needs) c3 w3 b3 s3 = ready_stays g a pushed (1 + more_needs) (1 + more_needs) c c3 w w3 b b3 s s3 (omega arith) ready0 done3.kept in
      last_points g a f h n weight (p + length (right ++ ls)) (p + length right) pushed (1 + more_needs) ls ends k vs c w b s rest (has_back (lines_of g a) p right ls has) c3 w3 b3 s3 done3.kept ready3 va vb
      (λ x e. leads c3 w3 b3 s3 va vb x ready3 fit (λ needs2 y ready4. told needs2 c3 w3 b3 y left3.scene done3.kept.grows ready4) done3.fits done3.result e) seen3 turned3 (weight + 2600 + 0) (omega arith) i (omega (arith, lt, lt3)))))

-- ---- the left operand waits in ptr2

module _ (g : World) (a : Active) (f h : Shape) (needs more_needs pushed : ℕ) (first second : List Item → List Item) (left right end : List Line) (placed : IsPlacement g.code g.place) (narrow : width_in f ≡ Ax)
    (leads : (w1 : Placing) (s1 : State) (c : Scene) (w : Placing) (b : Banks) (u : State) (va vb x : Value) → Grows w1 w → ax_of s1 < 65536 → Ready g a pushed (1 + more_needs) c w b u → MayFit Valued f va → ResultIs Valued w1 Ax va s1 → HasPair g u held_low held_high (ax_of s1)
    → MayFit Valued h vb → ResultIs Valued w (width_in h) vb u → binary c.store ops.Add f h va vb ≡ Ok x → Leads g a end 2560 u (IsPointing g a c w b u x)) where
  abbrev all : List Line
  all = left ++ (keep_code ++ (right ++ end))

  pair : (u1 u3 : State) → IsBytes u1 → IsHeld (kept_word u1) u3 → HasPair g u3 held_low held_high (ax_of u1)
  pair u1 u3 small held =
      let low : u3.zp 10 ≡ u1.regs.a = held.low in
      let high : u3.zp 11 ≡ u1.regs.x = held.high in
      record { may = omega arith; may2 = omega arith; small = omega (arith, low, small.a); small2 = omega (arith, high, small.x); word = omega (arith, low, high) }

  pub held_points : Does g a Valued f first needs pushed left → DoesIn g a (record usual { light = true }) Valued h second more_needs pushed right → TellsPointed g a (on_both ops.Add f h first second) (max needs (1 + more_needs)) pushed (Far 0) all
  held_points before behind n weight p k vs c w b s seen has ready turns rest =
      let lines = lines_of g a in
      let has1 : HasAt lines (p + length left) (keep_code ++ (right ++ end)) = has_back lines p left (keep_code ++ (right ++ end)) has in
      let has2 : HasAt lines (p + length left + length keep_code) (right ++ end) = has_back lines (p + length left) keep_code (right ++ end) has1 in
      let at : ℕ = p + length left + length keep_code + length right in
      let ends : at + length end ≡ p + length all = omega (arith, length-append left (keep_code ++ (right ++ end)), length-append keep_code (right ++ end), length-append right end) in
      let ready0 : Ready g a pushed needs c w b s = record { joins = ready.joins; sp = ready.sp; room = omega (arith, ready.room); none_pushed = ready.none_pushed } in
      before n weight p (second (Apply2 ops.Add f h ∷ k)) vs c w b s seen (has_front lines p left (keep_code ++ (right ++ end)) has) ready0 turns (λ j va c1 w1 b1 s1 seen1 lt done1 turned1.
      let ready1 : Ready g a pushed (1 + more_needs) c1 w1 b1 s1 = ready_stays g a pushed (max needs (1 + more_needs)) (1 + more_needs) c c1 w w1 b b1 s s1 (omega arith) ready done1.kept in
      follows_weaken g j (2 + (weight + 2598)) (weight + 2600) (Running (second (Apply2 ops.Add f h ∷ k)) (va ∷ vs) c1) (place_in g a (p + length left)) s1 seen1 (omega arith)
      (keep_leads g a pushed (1 + more_needs) c1 w1 b1 s1 placed ready1 j (weight + 2598) (p + length left) c1.turns (Running (second (Apply2 ops.Add f h ∷ k)) (va ∷ vs) c1) seen1 (has_front lines (p + length left) keep_code (right ++ end) has1) turned1 (λ s2 seen2 kept2 turned2.
      let bytes : IsBytes (kept_word s1) = subst IsBytes kept2.0 kept2.1 in
      let waits : Ready g a pushed (1 + more_needs) c1 w1 b1 (kept_word s1) = ready_waiting g a pushed (1 + more_needs) c1 w1 b1 s1 placed ready1 bytes in
      let fewer : Ready g a pushed more_needs c1 w1 b1 (kept_word s1) = record { joins = waits.joins; sp = waits.sp; room = omega (arith, waits.room); none_pushed = waits.none_pushed } in
      subst (λ z. Follows g j (weight + 2598) (Running (second (Apply2 ops.Add f h ∷ k)) (va ∷ vs) c1) (place_in g a (p + length left + length keep_code)) z seen2) (sym kept2.0)
      (behind j (weight + 2598) (p + length left + length keep_code) (Apply2 ops.Add f h ∷ k) (va ∷ vs) c1 w1 b1 (kept_word s1) seen2 (has_front lines (p + length left + length keep_code) right end has2) fewer turned2 (λ i vb c3 w3 b3 s3 seen3 lt3 done3 left3 turned3.
      let ready3 : Ready g a pushed (1 + more_needs) c3 w3 b3 s3 = ready_stays g a pushed (1 + more_needs) (1 + more_needs) c1 c3 w1 w3 b1 b3 (kept_word s1) s3 (omega arith) waits done3.kept in
      let kept3 : Kept g a c w b s c3 w3 b3 s3 = kept_goes_on g a c c1 c3 w w1 w3 b b1 b3 s s1 s3 done1.kept (kept_goes_on g a c1 c1 c3 w1 w1 w3 b1 b1 b3 s1 (kept_word s1) s3 (kept_waiting g a pushed (1 + more_needs) c1 w1 b1 s1 placed ready1 bytes) done3.kept) in
      let small = ready1.joins.bytes in
      let result1 : ResultIs Valued w1 Ax va s1 = subst (λ width. ResultIs Valued w1 width va s1) narrow done1.result in
      last_points g a f h n weight (p + length all) at pushed (1 + more_needs) end ends k vs c w b s rest (has_back lines (p + length left + length keep_code) right end has2) c3 w3 b3 s3 kept3 ready3 va vb
      (λ x e. leads w1 s1 c3 w3 b3 s3 va vb x done3.kept.grows (omega (arith, small.a, small.x)) ready3 done1.fits result1 (pair s1 s3 small left3.held) done3.fits done3.result e) seen3 turned3 (weight + 2598 + 2600 + 0) (omega arith) i (omega (arith, lt, lt3)))))))
