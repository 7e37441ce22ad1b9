-- Assignments whose address waits on the software stack, or is known.
use Rattle.std.proofs.Common.{◌≡◌, ℕ, ◌+◌, ◌<◌, ◌≤◌, max, List, [], ◌∷◌, ◌++◌, length, Option, Some, None, Bool, true, false, refl, sym, ap, ◌∙◌, subst, arith, length-append}
use Rattle.std.specs.Prelude.{nat_lt}
use Rattle.std.proofs.lemmas.Bool.Decides.{nat_tests}
use Rattle.std.proofs.Math.Nat.{mod-eq_of_lt}
use Rattle.c65_meaning.specs.Store as values
use Rattle.c65_meaning.specs.Store.{Block, Value, Shape, new_cells}
use Rattle.c65_meaning.specs.Items.{Item, Put}
use Rattle.c65_meaning.specs.State.{Scene, Running}
use Rattle.c65_code.specs.declared.line.Line.{Line}
use Rattle.c65_code.specs.declared.routine.Width.TheVariants.{Ax}
use Rattle.c65_code.specs.LineState.{State, word_at, sp_of, ax_of}
use Rattle.c65_code.specs.Placement.{IsPlacement, located}
use Rattle.c65_code.specs.Comes.{Seen}
use Rattle.c65_genload.specs.declared.places.Access.TheVariants.{Whole as whole_access}
use Rattle.c65_genload.specs.declared.places.Place.{Place}
use Rattle.c65_genload.specs.declared.places.Place.TheVariants.{Bank, Near, Data, Far}
use Rattle.c65_genload.specs.Places.{held}
use Rattle.c65_genload.specs.Loads.{hold_code}
use Rattle.c65_genload.specs.Stores.{store_code}
use Rattle.c65_genexpr.specs.Places.{more}
use Rattle.c65_agree_store.specs.Stands.{Spot, At, Banked, Placing, Banks, LiesIn, IsAt, beyond}
use Rattle.c65_agree_state.specs.World.{World, Active, lines_of, place_in, HasAt, HasTurns}
use Rattle.c65_agree_state.specs.Follows.{Follows}
use Rattle.c65_agree_state.specs.Exprs.{Ready, Kept, Valued, MayFit, ResultIs, Done, Rest, Does, width_in, bounds_of}
use Rattle.c65_agree_state.proofs.Followed.{follows_weaken}
use Rattle.c65_agree_state.proofs.Nodes.{has_front, has_back, ready_stays}
use Rattle.c65_agree_state.proofs.Parts.{kept_goes_on}
use Rattle.c65_agree_places.specs.Places.{spot_in}
use Rattle.c65_agree_put.specs.Puts.{IsOwn, AreTaken, with_put}
use Rattle.c65_agree_put.specs.Laws.{IsScalar}
use Rattle.c65_agree_put.proofs.Puts.{waiting_is_kept}
use Rattle.c65_agree_assign.specs.Places.{stored_spot, bytes_in, extent_in, kind_in}
use Rattle.c65_agree_operate.proofs.Routines.{number_waits}
use Rattle.c65_agree_access.specs.Destinations.{IsInBank, IsToldFor, TellsFor}
use Rattle.c65_agree_access.proofs.Putting.{IsDestination, store_follows, put_at}
use Rattle.c65_agree_access.proofs.Waiting.{IsWaiting, hold_leads}

-- ---- a block that lives behind the right side lived before it

pub record Lived (g : World) (a : Active) (c1 : Scene) (w1 : Placing) (b : ℕ) (q : Spot) : Type 0 where
  pub block : Block
  pub at : IsAt c1.store w1 b block q

abbrev live_in : Option (ℕ × Bool) → Bool
live_in None = false
live_in (Some z) = z.1

module _ (g : World) (a : Active) (c1 c3 : Scene) (w1 w3 : Placing) (b1 b3 : Banks) (s1 s2 s3 : State) (pushed needs : ℕ) (r1 : Ready g a pushed needs c1 w1 b1 s1) (kept : Kept g a c1 w1 b1 s2 c3 w3 b3 s3) (b : ℕ) (q0 : Spot) (stood : w1 b ≡ Some q0) where
  begun : b < c1.next
  begun = go (nat_lt b c1.next) refl
    where
      go : (before : Bool) → nat_lt b c1.next ≡ before → b < c1.next
      go true e = grind (arith, nat_tests)
      go false e =
          let le : c1.next ≤ b = grind (arith, nat_tests) in
          let none : Some q0 ≡ None = sym stood ∙ r1.joins.fresh b le in
          absurd cc

  pub lived : (x : Block) (q : Spot) → IsAt c3.store w3 b x q → Lived g a c1 w1 b q
  lived x q is = go (c1.store b) refl
    where
      same : bounds_of (c1.store b) ≡ Some (x.size, true)
      same = sym (kept.bounds b begun) ∙ ap bounds_of is.is ∙ ap (λ live. Some (x.size, live)) is.live

      spot : q0 ≡ q
      spot = let one : Some q0 ≡ Some q = sym (kept.grows b q0 stood) ∙ is.place in cc

      go : (o : Option Block) → c1.store b ≡ o → Lived g a c1 w1 b q
      go None e = absurd (let none : None ≡ Some (x.size, true) = sym (ap bounds_of e) ∙ same in cc)
      go (Some y) e = record { block = y; at = record { is = e; live = ap live_in (sym (ap bounds_of e) ∙ same); place = stood ∙ ap Some spot } }

-- ---- the spot when the value is stored

-- bytes of one call's regbank
own_bank : (a : Active) (d i at o n : ℕ) → Banked (length a.behind) at ≡ Banked d (i + o) → at + n ≤ a.frame.bank → IsOwn a (Banked d i) o n
own_bank a d i at o n e few = let one : length a.behind ≡ d = cc in let two : at ≡ i + o = cc in (sym one, omega (arith, two, few))

-- no place in memory is in regbank
pub own_memory : (g : World) (a : Active) (t : State) (place : Place) (q : Spot) (o n : ℕ) → IsInBank a place n → spot_in g a t place ≡ beyond q o → IsOwn a q o n
own_memory g a t (Bank at) (Banked d i) o n few e = own_bank a d i at o n e few
own_memory g a t (Near at) (Banked d i) o n few e = absurd (let no : At (sp_of t + at) ≡ Banked d (i + o) = e in cc)
own_memory g a t (Data s at) (Banked d i) o n few e = absurd (let no : At (located g.place s at) ≡ Banked d (i + o) = e in cc)
own_memory g a t (Far at) (Banked d i) o n few e = absurd (let no : At (ax_of t + at) ≡ Banked d (i + o) = e in cc)
own_memory g a t place (At at) o n few e = tt

module _ (g : World) (a : Active) (pushed needs : ℕ) (c1 c3 : Scene) (w1 w3 : Placing) (b1 b3 : Banks) (t s2 s3 : State) (r1 : Ready g a pushed (1 + needs) c1 w1 b1 t) (x : Block) (q : Spot) (b o n : ℕ) (is : IsAt c3.store w3 b x q) (inside : o + n ≤ x.holds) where
  -- the spot is that which was told
  same_spot : (place : Place) → IsWaiting g a pushed needs c1 w1 b1 place t s2 → Kept g a c1 w1 b1 s2 c3 w3 b3 s3 → spot_in g a t place ≡ beyond q o → stored_spot g a s3 place ≡ beyond q o
  same_spot (Bank at) wait kept e = e
  same_spot (Near at) wait kept e =
      let sp : sp_of s3 ≡ sp_of t = omega (arith, kept.sp, wait.are.sp, wait.many, wait.kept.sp) in
      ap (λ m. At (m + at)) sp ∙ e
  same_spot (Data s at) wait kept e = e
  same_spot (Far at) wait kept e = in_memory q is e
    where
      in_memory : (z : Spot) → IsAt c3.store w3 b x z → At (ax_of t + at) ≡ beyond z o → At (word_at s3.mem (sp_of s3)) ≡ beyond z o
      in_memory (Banked d i) is e = absurd (let no : At (ax_of t + at) ≡ Banked d (i + o) = e in cc)
      in_memory (At m) is e =
          let there : ax_of t + at ≡ m + o = cc in
          let ready = ready_stays g a (pushed + 2) needs needs c1 c3 w1 w3 b1 b3 s2 s3 (omega arith) wait.ready kept in
          let lies : LiesIn (At m) x.size = ready.joins.stands.lies b x (At m) is in
          let whole = ready.joins.stands.whole b x is.is in
          let low : ax_of t + at < 65536 = omega (arith, there, lies.1, inside, whole) in
          let word : word_at s3.mem (sp_of s3) ≡ word_at s2.mem (sp_of s2) = number_waits g a pushed needs c1 c3 w1 w3 b1 b3 s2 s3 Ax wait.ready kept in
          ap At (word ∙ wait.address low ∙ there)

-- ---- the assignment

module _ (g : World) (a : Active) (placed : IsPlacement g.code g.place) (f : Shape) (scalar : IsScalar f) (left_needs right_needs pushed : ℕ) (first second : List Item → List Item) (place : Place) (base right : List Line) where
  abbrev hold : List Line
  hold = hold_code place

  abbrev end : List Line
  end = store_code place (whole_access (kind_in f))

  abbrev all : List Line
  all = base ++ (hold ++ (right ++ end))

  abbrev size : ℕ
  size = bytes_in (extent_in f)

  module _ (n weight p : ℕ) (k : List Item) (vs : List Value) (c : Scene) (w : Placing) (b : Banks) (s : State) (rest : Rest g a Valued f n weight k vs (p + length all) c w b s)
      (c1 : Scene) (w1 : Placing) (b1 : Banks) (s1 : State) (kept1 : Kept g a c w b s c1 w1 b1 s1) (ready1 : Ready g a pushed (1 + right_needs) c1 w1 b1 s1) (s2 : State) (wait : IsWaiting g a pushed right_needs c1 w1 b1 place s1 s2)
      (c3 : Scene) (w3 : Placing) (b3 : Banks) (s3 : State) (v : Value) (done3 : Done g a Valued f c1 w1 b1 s2 v c3 w3 b3 s3) where
    abbrev at : ℕ
    at = p + length base + length hold + length right

    ends : at + length end ≡ p + length all
    ends = omega (arith, length-append base (hold ++ (right ++ end)), length-append hold (right ++ end), length-append right end)

    ready_then : Ready g a (pushed + held place) right_needs c3 w3 b3 s3
    ready_then = ready_stays g a (pushed + held place) right_needs right_needs c1 c3 w1 w3 b1 b3 s2 s3 (omega arith) wait.ready done3.kept

    meant : (m o : ℕ) → IsToldFor g a place (extent_in f) c1 w1 s1 (values.Place m o) → IsDestination g a c3 w3 s3 place m o size
    meant m o told x q is inside =
        let before : Lived g a c1 w1 m q = lived g a c1 c3 w1 w3 b1 b3 s1 s2 s3 pushed (1 + right_needs) ready1 done3.kept m told.0.0.0 told.0.0.1 x q is in
        let spot = (told.0.1 before.block q before.at).1 in
        (own_memory g a s1 place q o size told.2 spot, same_spot g a pushed right_needs c1 c3 w1 w3 b1 b3 s1 s2 s3 ready1 x q m o size is inside place wait done3.kept spot)

    stored_at : (m o : ℕ) → IsToldFor g a place (extent_in f) c1 w1 s1 (values.Place m o) → (j : ℕ) (more_weight : ℕ) (seen : Seen) → j ≤ n → weight ≤ more_weight + 800 → HasAt (lines_of g a) at end → HasTurns g c3.turns (place_in g a at) seen
        → Follows g j more_weight (Running (Put f ∷ k) (v ∷ values.Place m o ∷ vs) c3) (place_in g a at) s3 seen
    stored_at m o told j more_weight seen le enough has turned =
        store_follows g a pushed right_needs place f c3 w3 b3 s3 m o j more_weight at k vs seen placed has ready_then scalar told.1 turned v done3.fits done3.result (meant m o told) (λ i x later u after lt taken result turned2.
        let c4 : Scene = with_put c3 m x o size (new_cells f v x.cells o) in
        let over : Kept g a c1 w1 b1 wait.from c4 w3 later u = waiting_is_kept g a pushed right_needs wait.bytes c1 c3 c4 w1 w3 b1 b3 later wait.from s2 s3 u wait.are done3.kept (subst (λ count. AreTaken g a pushed right_needs count c3 w3 b3 s3 c4 later u) (sym wait.many) taken) in
        let kept : Kept g a c w b s c4 w3 later u = kept_goes_on g a c c1 c4 w w1 w3 b b1 later s s1 u kept1 (kept_goes_on g a c1 c1 c4 w1 w1 w3 b1 b1 later s1 wait.from u wait.kept over) in
        follows_weaken g i (weight + 2600) (more_weight + 3400) (Running k (v ∷ vs) c4) (place_in g a (at + length end)) u after (omega (arith, enough))
        (subst (λ z. Follows g i (weight + 2600) (Running k (v ∷ vs) c4) (place_in g a z) u after) (sym ends)
        (rest i v c4 w3 later u after (omega (arith, lt, le)) (record { kept = kept; result = result; fits = done3.fits }) (subst (λ z. HasTurns g c3.turns (place_in g a z) after) ends turned2))))

    stored : (x : Value) → IsToldFor g a place (extent_in f) c1 w1 s1 x → (j : ℕ) (more_weight : ℕ) (seen : Seen) → j ≤ n → weight ≤ more_weight + 800 → HasAt (lines_of g a) at end → HasTurns g c3.turns (place_in g a at) seen → Follows g j more_weight (Running (Put f ∷ k) (v ∷ x ∷ vs) c3) (place_in g a at) s3 seen
    stored x told j more_weight seen le enough has turned =
        put_at g a (pushed + held place) right_needs f c3 w3 b3 s3 j more_weight at k vs seen ready_then turned v x (λ m o is. stored_at m o (subst (IsToldFor g a place (extent_in f) c1 w1 s1) is told) j more_weight seen le enough has turned)

  two_wait : (c : Scene) (w : Placing) (b : Banks) (s : State) → Ready g a (pushed + held place) right_needs c w b s → more pushed (held place) ≡ pushed + held place
  two_wait c w b s ready = mod-eq_of_lt (omega (arith, ready.sp, ready.joins.top))

  pub stacked_does : TellsFor g a first left_needs pushed place (extent_in f) base → Does g a Valued f second right_needs (more pushed (held place)) right → Does g a Valued f (λ k. first (second (Put f ∷ k))) (max left_needs (1 + right_needs)) pushed all
  stacked_does tells behind n weight p k vs c w b s seen has ready turns rest =
      let lines = lines_of g a in
      let has1 : HasAt lines (p + length base) (hold ++ (right ++ end)) = has_back lines p base (hold ++ (right ++ end)) has in
      let has2 : HasAt lines (p + length base + length hold) (right ++ end) = has_back lines (p + length base) hold (right ++ end) has1 in
      let ready0 : Ready g a pushed left_needs c w b s = record { joins = ready.joins; sp = ready.sp; room = omega (arith, ready.room); none_pushed = ready.none_pushed } in
      tells n weight p (second (Put f ∷ k)) vs c w b s seen (has_front lines p base (hold ++ (right ++ end)) has) ready0 turns (λ j x c1 w1 b1 s1 seen1 lt kept1 told turned1.
      let ready1 : Ready g a pushed (1 + right_needs) c1 w1 b1 s1 = ready_stays g a pushed (max left_needs (1 + right_needs)) (1 + right_needs) c c1 w w1 b b1 s s1 (omega arith) ready kept1 in
      follows_weaken g j (263 + (weight + 2337)) (weight + 2600) (Running (second (Put f ∷ k)) (x ∷ vs) c1) (place_in g a (p + length base)) s1 seen1 (omega arith)
      (hold_leads g a pushed right_needs c1 w1 b1 s1 placed ready1 place j (weight + 2337) (p + length base) c1.turns (Running (second (Put f ∷ k)) (x ∷ vs) c1) seen1 (has_front lines (p + length base) hold (right ++ end) has1) turned1 (λ s2 seen2 wait turned2.
      let ready2 : Ready g a (more pushed (held place)) right_needs c1 w1 b1 s2 = subst (λ z. Ready g a z right_needs c1 w1 b1 s2) (sym (two_wait c1 w1 b1 s2 wait.ready)) wait.ready in
      behind j (weight + 2337) (p + length base + length hold) (Put f ∷ k) (x ∷ vs) c1 w1 b1 s2 seen2 (has_front lines (p + length base + length hold) right end has2) ready2 turned2 (λ i v c3 w3 b3 s3 seen3 lt3 done3 turned3.
      stored n weight p k vs c w b s rest c1 w1 b1 s1 kept1 ready1 s2 wait c3 w3 b3 s3 v done3 x told i (weight + 2337 + 2600) seen3 (omega (arith, lt, lt3)) (omega arith) (has_back lines (p + length base + length hold) right end has2) turned3))))
