-- The step of an assignment.
use Rattle.std.proofs.Common.{◌≡◌, ℕ, ◌+◌, ◌<◌, inl, List, ◌∷◌, false, refl, sym, ap, ◌∙◌, subst, arith}
use Rattle.std.specs.Prelude.{length, Result, Ok, Err}
use Rattle.c65_ints.specs.declared.types.IntType.TheVariants as I
use Rattle.c65_meaning.specs.Why.{Why}
use Rattle.c65_meaning.specs.Store as values
use Rattle.c65_meaning.specs.Store.{Cell, Block, Store, Value, Whole, Null, Opaque, Cells, NoValue, Shape, Number, Field, Pointer, Area, size_in, new_cells, set_block, write}
use Rattle.c65_meaning.specs.Fits.{Fits}
use Rattle.c65_meaning.specs.Items.{Item, Put}
use Rattle.c65_meaning.specs.State.{Scene, Running, with_store}
use Rattle.c65_meaning.specs.Step.{put, stored, loaded, assigned, go_on}
use Rattle.c65_code.specs.LineState.{State}
use Rattle.c65_code.specs.Placement.{IsPlacement}
use Rattle.c65_code.specs.Comes.{Seen}
use Rattle.c65_genload.specs.declared.places.Place.{Place}
use Rattle.c65_genload.specs.Places.{held}
use Rattle.c65_genload.specs.Stores.{bytes_store}
use Rattle.c65_agree_store.specs.Stands.{Spot, Placing, Banks, IsAt, beyond}
use Rattle.c65_agree_store.specs.Laws.{with_cells}
use Rattle.c65_agree_state.specs.World.{World, Active, lines_of, place_in, HasAt, HasTurns}
use Rattle.c65_agree_state.specs.Follows.{Follows}
use Rattle.c65_agree_state.specs.Exprs.{Ready, Valued, ResultIs, width_in}
use Rattle.c65_agree_state.proofs.Followed.{follows_weaken, steps_earn, ready_is_calm}
use Rattle.c65_agree_rows.proofs.Quiet.{nothing_follows}
use Rattle.c65_agree_put.specs.Puts.{MayPut, with_put}
use Rattle.c65_agree_put.specs.Laws.{IsWrite, IsScalar}
use Rattle.c65_agree_put.proofs.Values.{writes_are_puts, values_are_laid}
use Rattle.c65_agree_assign.specs.Places.{stored_spot, bytes_in, MayHold, extent_in}
use Rattle.c65_agree_assign.specs.Laws.{IsAssigned, IsMeant, AssignmentsAreFollowed}
use Rattle.c65_agree_assign.proofs.Stored.{numbers_are_stored}

-- a number or a pointer is put
pub put_is : (f : Shape) (c : Scene) (b o : ℕ) (v : Value) → IsScalar f → Fits f v → put false f c (values.Place b o) v ≡ stored c (write false f c.store b o v)
put_is f c b o (Whole z) scalar fits = refl
put_is f c b o Null scalar fits = refl
put_is f c b o (values.Place d p) scalar fits = refl
put_is f c b o Opaque scalar fits = refl
put_is f c b o (Cells xs) scalar fits = refl
put_is (Number t) c b o NoValue scalar fits = absurd fits
put_is (Pointer size) c b o NoValue scalar fits = absurd fits
put_is (Field t low width) c b o NoValue scalar fits = absurd scalar
put_is (Area size) c b o NoValue scalar fits = absurd scalar

pub size_is : (f : Shape) → IsScalar f → size_in f ≡ bytes_in (extent_in f)
size_is (Number I.SChar) scalar = refl
size_is (Number I.UChar) scalar = refl
size_is (Number I.Short) scalar = refl
size_is (Number I.UShort) scalar = refl
size_is (Number I.Int) scalar = refl
size_is (Number I.UInt) scalar = refl
size_is (Number I.Long) scalar = refl
size_is (Number I.ULong) scalar = refl
size_is (Pointer size) scalar = refl
size_is (Field t low width) scalar = absurd scalar
size_is (Area size) scalar = absurd scalar

module _ (g : World) (a : Active) (pushed needs : ℕ) (place : Place) (f : Shape) (c : Scene) (w : Placing) (k : Banks) (t : State) (b o : ℕ) (v : Value) (n weight p : ℕ) (work : List Item) (vs : List Value) (seen : Seen) (placed : IsPlacement g.code g.place) (has : HasAt (lines_of g a) p (bytes_store place (extent_in f))) (r : Ready g a (pushed + held place) needs c w k t) (scalar : IsScalar f) (fits : Fits f v) (result : ResultIs Valued w (width_in f) v t) (holds : MayHold place (extent_in f)) (meant : IsMeant g a w t place b o (bytes_in (extent_in f))) (turns : HasTurns g c.turns (place_in g a p) seen) where
  abbrev size : ℕ
  size = bytes_in (extent_in f)

  abbrev Behind : Type 0
  Behind = (j : ℕ) (x : Block) (v2 : Value) (later : Banks) (u : State) (after : Seen) → j < n → IsAssigned g a pushed needs place (extent_in f) c w k b x o (new_cells f v x.cells o) t later u
      → loaded f (with_put c b x o size (new_cells f v x.cells o)) (values.Place b o) ≡ Ok v2 → HasTurns g c.turns (place_in g a (p + length (bytes_store place (extent_in f)))) after
      → Follows g j (weight + 3740) (Running work (v2 ∷ vs) (with_put c b x o size (new_cells f v x.cells o))) (place_in g a (p + length (bytes_store place (extent_in f)))) u after

  -- what is read back
  read_back : Behind → (j : ℕ) → j < n → (x : Block) (q : Spot) → MayPut g a c w b x q o size → stored_spot g a t place ≡ beyond q o → (s : Result Value Why) → loaded f (with_put c b x o size (new_cells f v x.cells o)) (values.Place b o) ≡ s
      → Follows g j (weight + 4000) (go_on s work vs (with_put c b x o size (new_cells f v x.cells o))) (place_in g a p) t seen
  read_back behind j lt x q may spot (Err why) e = nothing_follows g why j (weight + 4000) (place_in g a p) t seen
  read_back behind j lt x q may spot (Ok v2) e =
      let c2 = with_put c b x o size (new_cells f v x.cells o) in
      follows_weaken g j (weight + 3740 + 260) (weight + 4000) (Running work (v2 ∷ vs) c2) (place_in g a p) t seen (omega arith)
      (numbers_are_stored g a pushed needs place (extent_in f) c w k t b x q o (new_cells f v x.cells o) j (weight + 3740) p c.turns (Running work (v2 ∷ vs) c2) seen placed has r may holds spot
      (λ i less. values_are_laid w f v t x.cells o i scalar r.joins.bytes fits result (omega (arith, less, size_is f scalar))) turns (λ later u after is h. behind j x v2 later u after lt is e h))

  -- what the meaning's store does
  is_stored : Behind → (j : ℕ) → j < n → (s : Result Store Why) → write false f c.store b o v ≡ s → Follows g j (weight + 4000) (assigned f (values.Place b o) work vs (stored c s)) (place_in g a p) t seen
  is_stored behind j lt (Err why) e = nothing_follows g why j (weight + 4000) (place_in g a p) t seen
  is_stored behind j lt (Ok s2) e =
      let i : IsWrite false f c.store b o v s2 = writes_are_puts false f c.store b o v s2 e in
      let there = r.joins.stands.placed b i.block i.is i.live in
      let q = there.0 in
      let known = meant q there.1 in
      let at : IsAt c.store w b i.block q = record { is = i.is; live = i.live; place = there.1 } in
      let may : MayPut g a c w b i.block q o size = record { block = at; fits = omega (arith, i.fits, size_is f scalar); own = known.0; writable = inl (i.may refl) } in
      let same : s2 ≡ set_block c.store b (with_cells i.block o size (new_cells f v i.block.cells o)) = i.store ∙ ap (λ y. set_block c.store b (with_cells i.block o y (new_cells f v i.block.cells o))) (size_is f scalar) in
      subst (λ z. Follows g j (weight + 4000) (assigned f (values.Place b o) work vs (Ok (with_store c z))) (place_in g a p) t seen) (sym same)
      (read_back behind j lt i.block q may known.1 (loaded f (with_put c b i.block o size (new_cells f v i.block.cells o)) (values.Place b o)) refl)

  pub assignment : Behind → Follows g n weight (Running (Put f ∷ work) (v ∷ values.Place b o ∷ vs) c) (place_in g a p) t seen
  assignment behind =
      steps_earn g n weight (Put f) work (v ∷ values.Place b o ∷ vs) c (place_in g a p) t seen (ready_is_calm g a (pushed + held place) needs c w k t r).calm r.joins.output r.joins.ended (omega (arith, turns))
      (λ j lt. subst (λ s. Follows g j (weight + 4000) (assigned f (values.Place b o) work vs s) (place_in g a p) t seen) (sym (put_is f c b o v scalar fits)) (is_stored behind j lt (write false f c.store b o v) refl))

pub assignments_are_followed : AssignmentsAreFollowed
assignments_are_followed g a pushed needs place f c w k t b o v n weight p work vs seen placed has r scalar fits result holds meant turns behind =
    assignment g a pushed needs place f c w k t b o v n weight p work vs seen placed has r scalar fits result holds meant turns behind
