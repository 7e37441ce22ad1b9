-- The step of an assignment, wherever its block stands.
use Rattle.std.proofs.Common.{◌≡◌, ℕ, ◌+◌, ◌<◌, ◌≤◌, ◌⊎◌, inl, inr, List, ◌∷◌, Option, Some, None, Bool, true, false, refl, sym, ap, ◌∙◌, subst, arith}
use Rattle.std.specs.Prelude.{nat_le, if◌then◌else◌, Result, Ok, Err, length}
use Rattle.std.proofs.lemmas.Bool.Decides.{nat_tests}
use Rattle.c65_meaning.specs.declared.action.Action.TheVariants.{NoResult, EndedObject, OutsideObject}
use Rattle.c65_meaning.specs.Why.{Why, By, Unfit, ◌>>=◌}
use Rattle.c65_meaning.specs.Store as values
use Rattle.c65_meaning.specs.Store.{Cell, Block, Store, Value, Whole, Null, Opaque, Cells, NoValue, Shape, Number, Field, Pointer, Area, size_in, new_cells, set_block, with_value, reached, read_cells, read, write}
use Rattle.c65_meaning.specs.Fits.{Fits}
use Rattle.c65_meaning.specs.Operators.{unusable}
use Rattle.c65_meaning.specs.Items.{Item, Put}
use Rattle.c65_meaning.specs.Laws.{Holds, number_held, opaque_number, null_held, place_held, opaque_pointer}
use Rattle.c65_meaning.specs.State.{Scene, Running, with_store}
use Rattle.c65_meaning.specs.Step.{put, stored, loaded, assigned, go_on}
use Rattle.c65_meaning.proofs.StoreLaws.{stored_is_read}
use Rattle.c65_fold_law.proofs.Operators.{wrap_itself}
use Rattle.c65_code.specs.declared.line.Line.{Line}
use Rattle.c65_code.specs.LineState.{State}
use Rattle.c65_code.specs.Placement.{IsPlacement}
use Rattle.c65_code.specs.Comes.{Seen}
use Rattle.c65_genload.specs.declared.places.Access.TheVariants.{Whole as whole_access}
use Rattle.c65_genload.specs.declared.places.Place.{Place}
use Rattle.c65_genload.specs.Places.{held}
use Rattle.c65_genload.specs.Stores.{store_code}
use Rattle.c65_agree_store.specs.Stands.{Spot, Placing, Banks, IsAt, beyond}
use Rattle.c65_agree_store.specs.Laws.{with_cells}
use Rattle.c65_agree_state.specs.World.{World, Active, lines_of, place_in, HasAt, HasTurns}
use Rattle.c65_agree_state.specs.Follows.{Follows}
use Rattle.c65_agree_state.specs.Exprs.{Ready, Kept, Valued, MayFit, ResultIs, width_in}
use Rattle.c65_agree_state.proofs.Followed.{follows_weaken, steps_earn, ready_is_calm}
use Rattle.c65_agree_numbers.proofs.Ranges.{words_in_range_stay}
use Rattle.c65_agree_rows.proofs.Quiet.{nothing_follows}
use Rattle.c65_agree_put.specs.Puts.{IsOwn, with_put, AreTaken}
use Rattle.c65_agree_put.specs.Laws.{IsScalar, IsWrite}
use Rattle.c65_agree_put.proofs.Values.{writes_are_puts}
use Rattle.c65_agree_frame.specs.Leads.{Leads}
use Rattle.c65_agree_put.proofs.Fits.{fits_or_none}
use Rattle.c65_agree_assign.specs.Places.{stored_spot, bytes_in, MayHold, extent_in, kind_in}
use Rattle.c65_agree_assign.proofs.Assigned.{size_is, put_is}
use Rattle.c65_agree_assign.proofs.Widened.{values_are_assigned}

-- ---- what is stored is read back

holds_itself : (f : Shape) (v : Value) → IsScalar f → Fits f v → Holds f v v
holds_itself (Number t) (Whole z) scalar fits = subst (λ x. Holds (Number t) (Whole z) (Whole x)) (wrap_itself t z fits) (number_held t z)
holds_itself (Number t) Opaque scalar fits = opaque_number t
holds_itself (Number t) Null scalar fits = absurd fits
holds_itself (Number t) (values.Place b o) scalar fits = absurd fits
holds_itself (Number t) (Cells xs) scalar fits = absurd fits
holds_itself (Number t) NoValue scalar fits = absurd fits
holds_itself (Pointer n) Null scalar fits = null_held n
holds_itself (Pointer n) (values.Place b o) scalar fits = place_held n b o
holds_itself (Pointer n) Opaque scalar fits = opaque_pointer n
holds_itself (Pointer n) (Whole z) scalar fits = absurd fits
holds_itself (Pointer n) (Cells xs) scalar fits = absurd fits
holds_itself (Pointer n) NoValue scalar fits = absurd fits
holds_itself (Field t low width) v scalar fits = absurd scalar
holds_itself (Area n) v scalar fits = absurd scalar

own_block : (s : Store) (b : ℕ) (x : Block) → set_block s b x b ≡ Some x
own_block s b x = grind arith

module _ (f : Shape) (s : Store) (b o : ℕ) (x : Block) (v : Value) (scalar : IsScalar f) (fits : Fits f v) where
  -- the block with the value
  abbrev y : Block
  y = with_value f x o v

  abbrev read_in : Option Block → Result Value Why
  read_in z = reached z o (size_in f) >>= λ q. read_cells f q.cells o

  back_in : (live : Bool) → x.live ≡ live → (inside : Bool) → nat_le (o + size_in f) x.holds ≡ inside → (v2 : Value) → ((if live then (if inside then Ok y else Err (By OutsideObject)) else Err (By EndedObject)) >>= λ q. read_cells f q.cells o) ≡ Ok v2 → v2 ≡ v
  back_in true l true i v2 e =
      let t : Store = set_block s b x in
      let written : write true f t b o v ≡ Ok (set_block t b y) = rw (own_block s b x, l, i) refl in
      let there : read f (set_block t b y) b o ≡ Ok v = stored_is_read true f t (set_block t b y) b o v v (holds_itself f v scalar fits) written in
      let same : read f (set_block t b y) b o ≡ Ok v2 = rw (own_block t b y, l, i) e in
      cc
  back_in true l false i v2 e = absurd cc
  back_in false l inside i v2 e = absurd cc

  pub value_back : (v2 : Value) → read f (set_block s b y) b o ≡ Ok v2 → v2 ≡ v
  value_back v2 e = back_in x.live refl (nat_le (o + size_in f) x.holds) refl v2 (subst (λ z. read_in z ≡ Ok v2) (own_block s b y) e)

pub put_back : (f : Shape) (c : Scene) (b o : ℕ) (x : Block) (v v2 : Value) → IsScalar f → Fits f v → loaded f (with_put c b x o (bytes_in (extent_in f)) (new_cells f v x.cells o)) (values.Place b o) ≡ Ok v2 → v2 ≡ v
put_back f c b o x v v2 scalar fits e = value_back f c.store b o x v scalar fits v2 (subst (λ n. read f (set_block c.store b (with_cells x o n (new_cells f v x.cells o))) b o ≡ Ok v2) (sym (size_is f scalar)) e)

-- ---- the step

-- a live block has the bytes, and stands where the lines store
abbrev pub IsDestination : World → Active → Scene → Placing → State → Place → ℕ → ℕ → ℕ → Type 0
IsDestination g a c w t place b o n = (x : Block) (q : Spot) → IsAt c.store w b x q → o + n ≤ x.holds → IsOwn a q o n × (stored_spot g a t place ≡ beyond q o)

module _ (g : World) (a : Active) (pushed needs : ℕ) (place : Place) (f : Shape) (c : Scene) (w : Placing) (k : Banks) (t : State) (b o n weight p : ℕ) (work : List Item) (vs : List Value) (seen : Seen) (placed : IsPlacement g.code g.place)
    (has : HasAt (lines_of g a) p (store_code place (whole_access (kind_in f)))) (r : Ready g a (pushed + held place) needs c w k t) (scalar : IsScalar f) (holds : MayHold place (extent_in f)) (turns : HasTurns g c.turns (place_in g a p) seen) where
  abbrev Behind : Value → Type 0
  Behind v = (j : ℕ) (x : Block) (later : Banks) (u : State) (after : Seen) → j < n
      → AreTaken g a pushed needs (held place) c w k t (with_put c b x o (bytes_in (extent_in f)) (new_cells f v x.cells o)) later u → ResultIs Valued w (width_in f) v u
      → HasTurns g c.turns (place_in g a (p + length (store_code place (whole_access (kind_in f))))) after
      → Follows g j (weight + 3400) (Running work (v ∷ vs) (with_put c b x o (bytes_in (extent_in f)) (new_cells f v x.cells o))) (place_in g a (p + length (store_code place (whole_access (kind_in f))))) u after

  -- nothing is defined behind a step that fails
  fails : (v : Value) (why : Why) → put false f c (values.Place b o) v ≡ Err why → Follows g n weight (Running (Put f ∷ work) (v ∷ values.Place b o ∷ vs) c) (place_in g a p) t seen
  fails v why e =
      steps_earn g n weight (Put f) work (v ∷ values.Place b o ∷ vs) c (place_in g a p) t seen (ready_is_calm g a (pushed + held place) needs c w k t r).calm r.joins.output r.joins.ended (omega (arith, turns)) (λ j lt.
      subst (λ s. Follows g j (weight + 4000) (assigned f (values.Place b o) work vs s) (place_in g a p) t seen) (sym e) (nothing_follows g why j (weight + 4000) (place_in g a p) t seen))

  module _ (v : Value) (fits : Fits f v) (result : ResultIs Valued w (width_in f) v t) (meant : IsDestination g a c w t place b o (bytes_in (extent_in f))) (behind : Behind v) where
    does : (x : Block) → c.store b ≡ Some x → x.live ≡ true → o + size_in f ≤ x.holds → Follows g n weight (Running (Put f ∷ work) (v ∷ values.Place b o ∷ vs) c) (place_in g a p) t seen
    does x is live inside =
        values_are_assigned g a pushed needs place f c w k t b o v n weight p work vs seen placed has r scalar fits result holds
        (λ q there. meant x q (record { is = is; live = live; place = there }) (omega (arith, inside, size_is f scalar))) turns (λ j y v2 later u after lt taken there e h.
        subst (λ z. Follows g j (weight + 3400) (Running work (z ∷ vs) (with_put c b y o (bytes_in (extent_in f)) (new_cells f v y.cells o))) (place_in g a (p + length (store_code place (whole_access (kind_in f))))) u after) (sym (put_back f c b o y v v2 scalar fits e))
        (behind j y later u after lt taken there h))

    in_block : (z : Option Block) → c.store b ≡ z → Follows g n weight (Running (Put f ∷ work) (v ∷ values.Place b o ∷ vs) c) (place_in g a p) t seen
    in_block None e = fails v Unfit (put_is f c b o v scalar fits ∙ rw e refl)
    in_block (Some x) e = go x.live refl (nat_le (o + size_in f) x.holds) refl
      where
        go : (live : Bool) → x.live ≡ live → (inside : Bool) → nat_le (o + size_in f) x.holds ≡ inside → Follows g n weight (Running (Put f ∷ work) (v ∷ values.Place b o ∷ vs) c) (place_in g a p) t seen
        go true l true i = does x e l (grind (arith, nat_tests))
        go true l false i = fails v (By OutsideObject) (put_is f c b o v scalar fits ∙ rw (e, l, i) refl)
        go false l inside i = fails v (By EndedObject) (put_is f c b o v scalar fits ∙ rw (e, l) refl)

  pub store_follows : (v : Value) → MayFit Valued f v → ResultIs Valued w (width_in f) v t → IsDestination g a c w t place b o (bytes_in (extent_in f)) → Behind v → Follows g n weight (Running (Put f ∷ work) (v ∷ values.Place b o ∷ vs) c) (place_in g a p) t seen
  store_follows v fits result meant behind = go (fits_or_none f v scalar fits)
    where
      go : Fits f v ⊎ (v ≡ NoValue) → Follows g n weight (Running (Put f ∷ work) (v ∷ values.Place b o ∷ vs) c) (place_in g a p) t seen
      go (inl fit) = in_block v fit result meant behind (c.store b) refl
      go (inr none) = subst (λ z. Follows g n weight (Running (Put f ∷ work) (z ∷ values.Place b o ∷ vs) c) (place_in g a p) t seen) (sym none) (fails NoValue (By NoResult) refl)

-- ---- by any lines

module _ (g : World) (a : Active) (pushed needs : ℕ) (f : Shape) (c : Scene) (w : Placing) (k : Banks) (t : State) (b o n weight p : ℕ) (work : List Item) (vs : List Value) (seen : Seen) (ls : List Line) (has : HasAt (lines_of g a) p ls) (r : Ready g a pushed needs c w k t) (scalar : IsScalar f) (turns : HasTurns g c.turns (place_in g a p) seen) where
  -- the scene in which the value is put
  abbrev pub put_in : Value → Block → Scene
  put_in v x = with_put c b x o (bytes_in (extent_in f)) (new_cells f v x.cells o)

  abbrev pub IsPut : Value → Block → State → Type 0
  IsPut v x u = Kept g a c w k t (put_in v x) w k u × ResultIs Valued w (width_in f) v u

  module _ (v : Value) (fits : Fits f v) (leads : (x : Block) (q : Spot) → IsAt c.store w b x q → x.sealed ≡ false → o + size_in f ≤ x.holds → Leads g a ls 600 t (IsPut v x))
      (behind : (j : ℕ) (x : Block) (u : State) (after : Seen) → j < n → IsPut v x u → HasTurns g c.turns (place_in g a (p + length ls)) after → Follows g j (weight + 3400) (Running work (v ∷ vs) (put_in v x)) (place_in g a (p + length ls)) u after) where
    read_back : (j : ℕ) → j < n → (x : Block) → Leads g a ls 600 t (IsPut v x) → (s : Result Value Why) → loaded f (put_in v x) (values.Place b o) ≡ s → Follows g j (weight + 4000) (go_on s work vs (put_in v x)) (place_in g a p) t seen
    read_back j lt x lead (Err why) e = nothing_follows g why j (weight + 4000) (place_in g a p) t seen
    read_back j lt x lead (Ok v2) e =
        let same : v ≡ v2 = sym (put_back f c b o x v v2 scalar fits e) in
        subst (λ z. Follows g j (weight + 4000) (Running work (z ∷ vs) (put_in v x)) (place_in g a p) t seen) same
        (follows_weaken g j (600 + (weight + 3400)) (weight + 4000) (Running work (v ∷ vs) (put_in v x)) (place_in g a p) t seen (omega arith)
        (lead j (weight + 3400) p c.turns (Running work (v ∷ vs) (put_in v x)) seen has turns (λ u after h turned. behind j x u after lt h turned)))

    is_stored : (j : ℕ) → j < n → (s : Result Store Why) → write false f c.store b o v ≡ s → Follows g j (weight + 4000) (assigned f (values.Place b o) work vs (stored c s)) (place_in g a p) t seen
    is_stored j lt (Err why) e = nothing_follows g why j (weight + 4000) (place_in g a p) t seen
    is_stored j lt (Ok s2) e =
        let i : IsWrite false f c.store b o v s2 = writes_are_puts false f c.store b o v s2 e in
        let there = r.joins.stands.placed b i.block i.is i.live in
        let at : IsAt c.store w b i.block there.0 = record { is = i.is; live = i.live; place = there.1 } in
        let same : s2 ≡ set_block c.store b (with_cells i.block o (bytes_in (extent_in f)) (new_cells f v i.block.cells o)) = i.store ∙ ap (λ y. set_block c.store b (with_cells i.block o y (new_cells f v i.block.cells o))) (size_is f scalar) in
        subst (λ z. Follows g j (weight + 4000) (assigned f (values.Place b o) work vs (Ok (with_store c z))) (place_in g a p) t seen) (sym same)
        (read_back j lt i.block (leads i.block there.0 at (i.may refl) i.fits) (loaded f (put_in v i.block) (values.Place b o)) refl)

    fitting : Follows g n weight (Running (Put f ∷ work) (v ∷ values.Place b o ∷ vs) c) (place_in g a p) t seen
    fitting =
        steps_earn g n weight (Put f) work (v ∷ values.Place b o ∷ vs) c (place_in g a p) t seen (ready_is_calm g a pushed needs c w k t r).calm r.joins.output r.joins.ended (omega (arith, turns))
        (λ j lt. subst (λ s. Follows g j (weight + 4000) (assigned f (values.Place b o) work vs s) (place_in g a p) t seen) (sym (put_is f c b o v scalar fits)) (is_stored j lt (write false f c.store b o v) refl))

  pub put_by : (v : Value) → MayFit Valued f v → (Fits f v → (x : Block) (q : Spot) → IsAt c.store w b x q → x.sealed ≡ false → o + size_in f ≤ x.holds → Leads g a ls 600 t (IsPut v x))
      → ((j : ℕ) (x : Block) (u : State) (after : Seen) → j < n → IsPut v x u → HasTurns g c.turns (place_in g a (p + length ls)) after → Follows g j (weight + 3400) (Running work (v ∷ vs) (put_in v x)) (place_in g a (p + length ls)) u after)
      → Follows g n weight (Running (Put f ∷ work) (v ∷ values.Place b o ∷ vs) c) (place_in g a p) t seen
  put_by v may leads behind = go (fits_or_none f v scalar may)
    where
      go : Fits f v ⊎ (v ≡ NoValue) → Follows g n weight (Running (Put f ∷ work) (v ∷ values.Place b o ∷ vs) c) (place_in g a p) t seen
      go (inl fit) = fitting v fit (leads fit) behind
      go (inr none) = subst (λ z. Follows g n weight (Running (Put f ∷ work) (z ∷ values.Place b o ∷ vs) c) (place_in g a p) t seen) (sym none)
          (steps_earn g n weight (Put f) work (NoValue ∷ values.Place b o ∷ vs) c (place_in g a p) t seen (ready_is_calm g a pushed needs c w k t r).calm r.joins.output r.joins.ended (omega (arith, turns)) (λ j lt. nothing_follows g (By NoResult) j (weight + 4000) (place_in g a p) t seen))

-- nothing is defined where the left side has given no place
pub put_at : (g : World) (a : Active) (pushed needs : ℕ) (f : Shape) (c : Scene) (w : Placing) (k : Banks) (t : State) (n weight p : ℕ) (work : List Item) (vs : List Value) (seen : Seen) → Ready g a pushed needs c w k t → HasTurns g c.turns (place_in g a p) seen → (v y : Value)
    → ((m o : ℕ) → y ≡ values.Place m o → Follows g n weight (Running (Put f ∷ work) (v ∷ values.Place m o ∷ vs) c) (place_in g a p) t seen)
    → Follows g n weight (Running (Put f ∷ work) (v ∷ y ∷ vs) c) (place_in g a p) t seen
put_at g a pushed needs f c w k t n weight p work vs seen r turns v y goes = by y goes
  where
    unplaced : (y : Value) → put false f c y v ≡ Err (unusable y) → Follows g n weight (Running (Put f ∷ work) (v ∷ y ∷ vs) c) (place_in g a p) t seen
    unplaced y e =
        steps_earn g n weight (Put f) work (v ∷ y ∷ vs) c (place_in g a p) t seen (ready_is_calm g a pushed needs c w k t r).calm r.joins.output r.joins.ended (omega (arith, turns)) (λ j lt.
        subst (λ s. Follows g j (weight + 4000) (assigned f y work vs s) (place_in g a p) t seen) (sym e) (nothing_follows g (unusable y) j (weight + 4000) (place_in g a p) t seen))

    by : (y : Value) → ((m o : ℕ) → y ≡ values.Place m o → Follows g n weight (Running (Put f ∷ work) (v ∷ values.Place m o ∷ vs) c) (place_in g a p) t seen) → Follows g n weight (Running (Put f ∷ work) (v ∷ y ∷ vs) c) (place_in g a p) t seen
    by (values.Place m o) goes = goes m o refl
    by (Whole z) goes = unplaced (Whole z) refl
    by Null goes = unplaced Null refl
    by Opaque goes = unplaced Opaque refl
    by (Cells xs) goes = unplaced (Cells xs) refl
    by NoValue goes = unplaced NoValue refl
