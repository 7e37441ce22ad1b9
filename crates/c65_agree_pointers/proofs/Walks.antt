-- Operators of any shapes, by how their operands come: the lines of the left one and those of the right one are gone through, and then those of the operator.
use Rattle.std.proofs.Common.{◌≡◌, ℕ, ◌+◌, ◌<◌, ◌≤◌, max, List, ◌∷◌, ◌++◌, length, Bool, true, refl, sym, subst, arith, length-append}
use Rattle.std.specs.Prelude.{Ok}
use Rattle.c65_base.specs.declared.operators.BinaryOp.{BinaryOp}
use Rattle.c65_meaning.specs.Store.{Value, Shape}
use Rattle.c65_meaning.specs.Fits.{Fits}
use Rattle.c65_meaning.specs.Items.{Item, Apply2}
use Rattle.c65_meaning.specs.Operators.{binary}
use Rattle.c65_meaning.specs.State.{Scene, Running}
use Rattle.c65_code.specs.declared.line.Line.{Line}
use Rattle.c65_code.specs.LineState.{Place as Spot, State}
use Rattle.c65_code.specs.Comes.{Seen}
use Rattle.c65_agree_store.specs.Stands.{Placing, Banks, Grows}
use Rattle.c65_agree_state.specs.World.{World, Active, lines_of, place_in, HasTurns}
use Rattle.c65_agree_state.specs.Follows.{Follows}
use Rattle.c65_agree_state.specs.Exprs.{Ready, Valued, MayFit, ResultIs, Kept, Done, width_in}
use Rattle.c65_agree_state.proofs.Followed.{follows_weaken}
use Rattle.c65_agree_state.proofs.Nodes.{has_front, has_back, ready_stays}
use Rattle.c65_agree_state.proofs.Parts.{kept_goes_on}
use Rattle.c65_agree_frame.specs.Leads.{Leads}
use Rattle.c65_agree_frame.proofs.Leads.{leads_as}
use Rattle.c65_agree_put.specs.Laws.{IsScalar}
use Rattle.c65_agree_put.proofs.Fits.{may_fit}
use Rattle.c65_agree_direct.specs.Operands.{HasBytes}
use Rattle.c65_gendirect.specs.declared.direct.Direct.{Direct}
use Rattle.c65_agree_operate.specs.Manners.{Manner, Where, IsLeft, RestIn, DoesIn}
use Rattle.c65_agree_operate.proofs.Manners.{left_then}
use Rattle.c65_agree_operate.proofs.Behind.{IsGiven}
use Rattle.c65_agree_operate_bytes.specs.Laws.{IsReadBehind}
use Rattle.c65_agree_operate_bytes.proofs.DirectLefts.{less_left}
use Rattle.c65_agree_pointers.specs.Sums.{on_both}
use Rattle.c65_agree_pointers.proofs.Last.{IsEnded, last_follows}

-- The work takes no lines, and its value is so.
abbrev pub TakesNone : World → Active → ℕ → Shape → (List Item → List Item) → (Scene → Placing → State → Value → Type 0) → Type 0
TakesNone g a pushed h second IsSo = (needs n weight : ℕ) (k : List Item) (vs : List Value) (c : Scene) (w : Placing) (b : Banks) (p : Spot) (t : State) (seen : Seen)
    → Ready g a pushed needs c w b t → HasTurns g c.turns p seen
    → ((j : ℕ) (v : Value) → j < n → Fits h v → IsSo c w t v → Follows g j (weight + 4000) (Running k (v ∷ vs) c) p t seen)
    → Follows g n weight (Running (second k) vs c) p t seen

-- what operators give fits
abbrev pub GivesFit : BinaryOp → Shape → Shape → Shape → Type 0
GivesFit op f h r = (c : Scene) (va vb x : Value) → MayFit Valued f va → binary c.store op f h va vb ≡ Ok x → MayFit Valued r x

-- the left one began at the state s, and the operator's lines begin at the state u
pub ended : (g : World) (a : Active) (m : Manner) (r : Shape) (c c2 : Scene) (w w2 : Placing) (b b2 : Banks) (s u : State) (x : Value) (ls : List Line) (cost : ℕ) → Kept g a c w b s c2 w2 b2 u → IsLeft m c s c2 u → MayFit Valued r x
    → Leads g a ls cost u (IsGiven g a m r c2 w2 b2 u x) → Leads g a ls cost u (IsEnded g a m r c w b s x c2 w2 b2)
ended g a m r c c2 w w2 b b2 s u x ls cost kept left fits lead =
    leads_as g a ls cost cost u (IsGiven g a m r c2 w2 b2 u x) (IsEnded g a m r c w b s x c2 w2 b2) (omega arith)
    (λ y d. record { done = record { kept = kept_goes_on g a c c2 c2 w w2 w2 b b2 b2 s u y kept d.kept; result = d.result; fits = fits }; left = left_then m c c2 c2 s u y left d.left }) lead

-- ---- the right operand takes no lines

module _ (g : World) (a : Active) (m : Manner) (op : BinaryOp) (f h r : Shape) (needs more_needs pushed : ℕ) (first second : List Item → List Item) (left ls : List Line) (fits : GivesFit op f h r)
    (IsSo : Scene → Placing → State → Value → Type 0) (none : TakesNone g a pushed h second IsSo)
    (leads : (c : Scene) (w : Placing) (b : Banks) (u : State) (va vb x : Value) → Ready g a pushed (1 + more_needs) c w b u → MayFit Valued f va → ResultIs Valued w (width_in f) va u → Fits h vb → IsSo c w u vb → binary c.store op f h va vb ≡ Ok x → Leads g a ls 2560 u (IsGiven g a m r c w b u x)) where
  pub right_read : DoesIn g a m Valued f first needs pushed left → DoesIn g a m Valued r (on_both op f h first second) (max needs (1 + more_needs)) pushed (left ++ ls)
  right_read before n weight p k vs c w b s seen has ready turns rest =
      let ready0 : Ready g a pushed needs c w b s = record { joins = ready.joins; sp = ready.sp; room = omega (arith, ready.room); none_pushed = ready.none_pushed } in
      let ends : p + length left + length ls ≡ p + length (left ++ ls) = omega (arith, length-append left ls) in
      before n weight p (second (Apply2 op f h ∷ k)) vs c w b s seen (has_front (lines_of g a) p left ls has) ready0 turns (λ j va c1 w1 b1 s1 seen1 lt done1 left1 turned1.
      let ready1 : Ready g a pushed (1 + more_needs) c1 w1 b1 s1 = ready_stays g a pushed (max needs (1 + more_needs)) (1 + more_needs) c c1 w w1 b b1 s s1 (omega arith) ready done1.kept in
      none (1 + more_needs) j (weight + 2600 + m.over) (Apply2 op f h ∷ k) (va ∷ vs) c1 w1 b1 (place_in g a (p + length left)) s1 seen1 ready1 turned1 (λ i vb lt2 fit so.
      last_follows g a m op f h r n weight (p + length (left ++ ls)) (p + length left) 2560 pushed (1 + more_needs) ls ends k vs c w b s rest (has_back (lines_of g a) p left ls has) c1 w1 b1 s1 ready1 va vb
      (λ x e. ended g a m r c c1 w w1 b b1 s s1 x ls 2560 done1.kept left1 (fits c1 va vb x done1.fits e) (leads c1 w1 b1 s1 va vb x ready1 done1.fits done1.result fit so e))
      seen1 turned1 (weight + 2600 + m.over + 4000) (omega arith) i (omega (arith, lt, lt2))))

-- ---- the left operand is read behind the right one

module _ (g : World) (a : Active) (m : Manner) (pure : Bool) (op : BinaryOp) (f h r : Shape) (needs more_needs pushed : ℕ) (d : Direct) (first second : List Item → List Item) (right ls : List Line) (fits : GivesFit op f h r) (scalar : IsScalar f) (asked : m.pure ≡ true → pure ≡ true) (reads : IsReadBehind g a pure pushed f first d)
    (leads : (c : Scene) (w : Placing) (b : Banks) (u : State) (va vb x : Value) → Ready g a pushed (1 + more_needs) c w b u → Fits f va → ((needs2 : ℕ) (y : State) → Ready g a pushed needs2 c w b y → HasBytes g c.store w y (width_in f) d va) → MayFit Valued h vb → ResultIs Valued w (width_in h) vb u → binary c.store op f h va vb ≡ Ok x → Leads g a ls 2560 u (IsGiven g a m r c w b u x)) where
  pub left_read : DoesIn g a (record m { pure = pure }) Valued h second more_needs pushed right → DoesIn g a m Valued r (on_both op f h first second) (max needs (1 + more_needs)) pushed (right ++ ls)
  left_read behind n weight p k vs c w b s seen has ready turns rest =
      let ready0 : Ready g a pushed (1 + more_needs) c w b s = record { joins = ready.joins; sp = ready.sp; room = omega (arith, ready.room); none_pushed = ready.none_pushed } in
      let ready1 : Ready g a pushed more_needs c w b s = record { joins = ready.joins; sp = ready.sp; room = omega (arith, ready.room); none_pushed = ready.none_pushed } in
      let ends : p + length right + length ls ≡ p + length (right ++ ls) = omega (arith, length-append right ls) in
      reads more_needs n weight (second (Apply2 op f h ∷ k)) vs c w b (place_in g a p) s seen ready1 turns (λ j va lt fit told.
      follows_weaken g j weight (weight + 4000) (Running (second (Apply2 op f h ∷ k)) (va ∷ vs) c) (place_in g a p) s seen (omega arith)
      (behind j weight p (Apply2 op f h ∷ k) (va ∷ vs) c w b s seen (has_front (lines_of g a) p right ls has) ready1 turns (λ i vb c3 w3 b3 s3 seen3 lt3 done3 left3 turned3.
      let ready3 : Ready g a pushed (1 + more_needs) c3 w3 b3 s3 = ready_stays g a pushed (1 + more_needs) (1 + more_needs) c c3 w w3 b b3 s s3 (omega arith) ready0 done3.kept in
      last_follows g a m op f h r n weight (p + length (right ++ ls)) (p + length right) 2560 pushed (1 + more_needs) ls ends k vs c w b s rest (has_back (lines_of g a) p right ls has) c3 w3 b3 s3 ready3 va vb
      (λ x e. ended g a m r c c3 w w3 b b3 s s3 x ls 2560 done3.kept (less_left m pure c c3 s s3 asked left3) (fits c3 va vb x (may_fit f va scalar fit) e) (leads c3 w3 b3 s3 va vb x ready3 fit (λ needs2 y ready4. told needs2 c3 w3 b3 y left3.scene done3.kept.grows ready4) done3.fits done3.result e))
      seen3 turned3 (weight + 2600 + m.over) (omega arith) i (omega (arith, lt, lt3)))))

-- ---- what is read behind the lines of another tree is read there

abbrev pub IsReadAt : World → Active → ℕ → Shape → Direct → Scene → Placing → State → Value → Type 0
IsReadAt g a pushed h d c w t v = (needs : ℕ) (b : Banks) (u : State) → Ready g a pushed needs c w b u → HasBytes g c.store w u (width_in h) d v

pub read_takes_none : (g : World) (a : Active) (pushed : ℕ) (h : Shape) (second : List Item → List Item) (d : Direct) → IsReadBehind g a true pushed h second d → TakesNone g a pushed h second (IsReadAt g a pushed h d)
read_takes_none g a pushed h second d reads needs n weight k vs c w b p t seen ready turned goes =
    reads needs n weight k vs c w b p t seen ready turned (λ j v lt fit told. goes j v lt fit (λ needs2 b2 u ready2. told needs2 c w b2 u refl (λ x q e. e) ready2))
