-- The step of an initial value.
use Rattle.std.proofs.Common.{◌≡◌, ℕ, ◌+◌, ◌<◌, ◌≤◌, ◌⊎◌, inl, inr, Option, Some, None, List, [], ◌∷◌, ◌++◌, Bool, true, false, refl, sym, ap, ◌∙◌, subst, arith}
use Rattle.std.specs.Prelude.{length, nat_le, Result, Ok, Err, if◌then◌else◌}
use Rattle.std.proofs.lemmas.Bool.Decides.{nat_tests}
use Rattle.c65_ints.specs.declared.types.IntType.TheVariants as I
use Rattle.c65_meaning.specs.Why.{Why, By}
use Rattle.c65_meaning.specs.declared.action.Action.TheVariants.{NoResult}
use Rattle.c65_meaning.specs.Store as values
use Rattle.c65_meaning.specs.Store.{Block, Store, Value, Whole, Null, Opaque, Cells, NoValue, Shape, Number, Field, Pointer, Area, size_in, new_cells, set_block, write}
use Rattle.c65_meaning.specs.Fits.{Fits}
use Rattle.c65_meaning.specs.Items.{Item, Init}
use Rattle.c65_meaning.specs.Shapes.{object_block}
use Rattle.c65_meaning.specs.State.{Scene, Running, block_in, with_store}
use Rattle.c65_meaning.specs.Step as step
use Rattle.c65_meaning.specs.Step.{put, stored, with_scene, at_offset}
use Rattle.c65_code.specs.declared.line.Line.{Line}
use Rattle.c65_code.specs.declared.line.Sym.{Sym}
use Rattle.c65_code.specs.LineState.{State, sp_of, eax_of}
use Rattle.c65_code.specs.Placement.{IsPlacement}
use Rattle.c65_code.specs.Comes.{Seen}
use Rattle.c65_genload.specs.declared.places.Extent.{Extent}
use Rattle.c65_genload.specs.declared.places.Access.TheVariants as access
use Rattle.c65_genload.specs.declared.places.Place.TheVariants as places
use Rattle.c65_genload.specs.Places.{held}
use Rattle.c65_genload.specs.Stores.{bytes_store, store_code}
use Rattle.c65_genentry.specs.Pointers.{far_store}
use Rattle.c65_genstmt.specs.declared.objects.Spot as objects
use Rattle.c65_genstmt.specs.declared.objects.Spot.TheVariants as spots
use Rattle.c65_genstmt.specs.Objects.{spot_of, stored_code}
use Rattle.c65_agree_store.specs.Stands.{Spot, At, Banked, Placing, Banks, IsAt, CellIs, beyond}
use Rattle.c65_agree_store.specs.Laws.{with_cells, byte_of}
use Rattle.c65_agree_state.specs.World.{World, unit_in, Active, lines_of, place_in, HasAt, HasTurns}
use Rattle.c65_agree_state.specs.Follows.{Follows}
use Rattle.c65_agree_state.specs.Exprs.{Ready, Valued, MayFit, ResultIs, width_in}
use Rattle.c65_agree_state.specs.Sizes.{AreSized}
use Rattle.c65_agree_state.proofs.Followed.{follows_weaken, steps_earn, ready_is_calm}
use Rattle.c65_agree_rows.proofs.Quiet.{nothing_follows}
use Rattle.c65_agree_put.specs.Puts.{MayPut, with_put, AreTaken}
use Rattle.c65_agree_put.specs.Laws.{IsWrite, IsScalar}
use Rattle.c65_agree_put.proofs.Values.{writes_are_puts, values_are_laid}
use Rattle.c65_agree_put.proofs.Fits.{fits_or_none}
use Rattle.c65_agree_assign.specs.Places.{stored_spot, bytes_in, MayHold, extent_in, kind_in}
use Rattle.c65_agree_assign.proofs.Stored.{numbers_are_stored}
use Rattle.c65_agree_part.specs.Parts.{place_of, IsSettable}
use Rattle.c65_agree_part.specs.Laws.{ValuesAreBegun}
use Rattle.c65_agree_part.proofs.Where.{IsThere, is_there}
use Rattle.c65_agree_part.proofs.Far.{far_goes}

-- a number or a pointer that is an initial value is put
put_is : (f : Shape) (c : Scene) (b o : ℕ) (v : Value) → IsScalar f → Fits f v → put true f c (values.Place b o) v ≡ stored c (write true f c.store b o v)
put_is f c b o (Whole z) scalar fits = refl
put_is f c b o Null scalar fits = refl
put_is f c b o (values.Place d p) scalar fits = refl
put_is f c b o Opaque scalar fits = refl
put_is f c b o (Cells xs) scalar fits = refl
put_is (Number t) c b o NoValue scalar fits = absurd fits
put_is (Pointer _) c b o NoValue scalar fits = absurd fits
put_is (Field t low width) c b o NoValue scalar fits = absurd scalar
put_is (Area _) c b o NoValue scalar fits = absurd scalar

size_is : (f : Shape) → IsScalar f → size_in f ≡ bytes_in (extent_in f)
size_is (Number I.SChar) scalar = refl
size_is (Number I.UChar) scalar = refl
size_is (Number I.Short) scalar = refl
size_is (Number I.UShort) scalar = refl
size_is (Number I.Int) scalar = refl
size_is (Number I.UInt) scalar = refl
size_is (Number I.Long) scalar = refl
size_is (Number I.ULong) scalar = refl
size_is (Pointer _) scalar = refl
size_is (Field t low width) scalar = absurd scalar
size_is (Area _) scalar = absurd scalar

none_held : (s : objects.Spot) → held (place_of s) ≡ 0
none_held (spots.Bank bank) = refl
none_held (spots.Soft at) = refl
none_held (spots.Data sym at) = refl

-- ---- the lines

no_more : (ls : List Line) → ls ++ [] ≡ ls
no_more [] = refl
no_more (l ∷ ls) = ap (λ rest. l ∷ rest) (no_more ls)

-- in memory and in regbank a store ends with the last byte
bank_is : (bank : ℕ) (f : Shape) → IsScalar f → store_code (places.Bank bank) (access.Whole (kind_in f)) ≡ bytes_store (places.Bank bank) (extent_in f)
bank_is bank (Number t) scalar = no_more (bytes_store (places.Bank bank) (extent_in (Number t)))
bank_is bank (Pointer _) scalar = refl
bank_is bank (Field t low width) scalar = absurd scalar
bank_is bank (Area _) scalar = absurd scalar

near_is : (at : ℕ) (f : Shape) → IsScalar f → store_code (places.Near at) (access.Whole (kind_in f)) ≡ bytes_store (places.Near at) (extent_in f)
near_is at (Number t) scalar = no_more (bytes_store (places.Near at) (extent_in (Number t)))
near_is at (Pointer _) scalar = refl
near_is at (Field t low width) scalar = absurd scalar
near_is at (Area _) scalar = absurd scalar

data_is : (s : Sym) (at : ℕ) (f : Shape) → IsScalar f → store_code (places.Data s at) (access.Whole (kind_in f)) ≡ bytes_store (places.Data s at) (extent_in f)
data_is s at (Number t) scalar = no_more (bytes_store (places.Data s at) (extent_in (Number t)))
data_is s at (Pointer _) scalar = refl
data_is s at (Field t low width) scalar = absurd scalar
data_is s at (Area _) scalar = absurd scalar

-- the lines of a store, wherever the part lies
module _ (g : World) (a : Active) (needs o : ℕ) (f : Shape) (c : Scene) (w : Placing) (k : Banks) (t : State) (v : Value) (n weight p : ℕ) (work : List Item) (vs : List Value) (seen : Seen) (placed : IsPlacement g.code g.place) (r : Ready g a 0 needs c w k t) (scalar : IsScalar f) (b : ℕ) (x : Block) (z : Spot) (may : MayPut g a c w b x z o (bytes_in (extent_in f))) (laid : (l : ℕ) → l < bytes_in (extent_in f) → CellIs w (new_cells f v x.cells o l) (byte_of l (eax_of t))) (turns : HasTurns g c.turns (place_in g a p) seen) where
  abbrev c2 : Scene
  c2 = with_put c b x o (bytes_in (extent_in f)) (new_cells f v x.cells o)

  abbrev Stores : List Line → Type 0
  Stores ls = HasAt (lines_of g a) p ls
      → ((later : Banks) (u : State) (after : Seen) → AreTaken g a 0 needs 0 c w k t c2 later u → HasTurns g c.turns (place_in g a (p + length ls)) after → Follows g n (weight + 3740) (Running work vs c2) (place_in g a (p + length ls)) u after)
      → Follows g n (weight + 4000) (Running work vs c2) (place_in g a p) t seen

  by_bytes : (s : objects.Spot) → MayHold (place_of s) (extent_in f) → stored_spot g a t (place_of s) ≡ beyond z o → Stores (bytes_store (place_of s) (extent_in f))
  by_bytes s holds spot has behind =
      let none = none_held s in
      let zero : 0 ≡ 0 + held (place_of s) = omega (arith, none) in
      follows_weaken g n (weight + 3740 + 260) (weight + 4000) (Running work vs c2) (place_in g a p) t seen (omega arith)
      (numbers_are_stored g a 0 needs (place_of s) (extent_in f) c w k t b x z o (new_cells f v x.cells o) n (weight + 3740) p c.turns (Running work vs c2) seen placed has (subst (λ y. Ready g a y needs c w k t) zero r) may holds spot laid turns (λ later u after is h.
      behind later u after (subst (λ y. AreTaken g a 0 needs y c w k t c2 later u) none is.taken) h))

  further : (at : ℕ) → (y : Spot) → z ≡ y → At (sp_of t + at) ≡ beyond y o → Stores (far_store at (bytes_in (extent_in f)))
  further at (At from) same spot has behind =
      let mine : MayPut g a c w b x (At from) o (bytes_in (extent_in f)) = subst (λ y. MayPut g a c w b x y o (bytes_in (extent_in f))) same may in
      let there : sp_of t + at ≡ from + o = cc in
      let lies = (r.joins.stands.lies b x (At from) mine.block).1 in
      let whole = r.joins.stands.whole b x mine.block.is in
      follows_weaken g n (weight + 3740 + 260) (weight + 4000) (Running work vs c2) (place_in g a p) t seen (omega arith)
      (far_goes g a needs c w k t b x from o (bytes_in (extent_in f)) (new_cells f v x.cells o) placed r mine at there n c.turns (Running work vs c2) (extent_in f) (weight + 3740) p seen refl (omega (arith, there, mine.fits, whole, lies)) has laid turns (λ u after taken h. behind k u after taken h))
  further at (Banked d l) same spot has behind = cc

  -- near sp by Y, and further on through a pointer
  above : (at : ℕ) → At (sp_of t + at) ≡ beyond z o → (near : Bool) → nat_le at 252 ≡ near → Stores (if near then store_code (places.Near at) (access.Whole (kind_in f)) else far_store at (size_in f))
  above at spot true e = subst Stores (sym (near_is at f scalar)) (by_bytes (spots.Soft at) (grind (arith, nat_tests)) spot)
  above at spot false e = subst (λ y. Stores (far_store at y)) (sym (size_is f scalar)) (further at z refl spot)

  pub by_spot : (s : objects.Spot) → IsThere g a t s (bytes_in (extent_in f)) o z → Stores (stored_code s (access.Whole (kind_in f)) (size_in f))
  by_spot (spots.Bank bank) there = subst Stores (sym (bank_is bank f scalar)) (by_bytes (spots.Bank bank) there.held there.spot)
  by_spot (spots.Soft at) there = above at there.spot (nat_le at 252) refl
  by_spot (spots.Data s at) there = subst Stores (sym (data_is s at f scalar)) (by_bytes (spots.Data s at) tt there.spot)

-- ---- the step

module _ (g : World) (a : Active) (needs i o : ℕ) (f : Shape) (c : Scene) (w : Placing) (k : Banks) (t : State) (v : Value) (n weight p : ℕ) (work : List Item) (vs : List Value) (seen : Seen) (placed : IsPlacement g.code g.place) (has : HasAt (lines_of g a) p (stored_code (spot_of a.frame i o) (access.Whole (kind_in f)) (size_in f))) (r : Ready g a 0 needs c w k t) (sized : AreSized (unit_in g) c) (scalar : IsScalar f) (result : ResultIs Valued w (width_in f) v t) (can : IsSettable g a i) (turns : HasTurns g c.turns (place_in g a p) seen) where
  abbrev extent : Extent
  extent = extent_in f

  abbrev end : ℕ
  end = p + length (stored_code (spot_of a.frame i o) (access.Whole (kind_in f)) (size_in f))

  abbrev Behind : Type 0
  Behind = (j b : ℕ) (x : Block) (later : Banks) (u : State) (after : Seen) → j < n → block_in c.frames i ≡ Some b
      → AreTaken g a 0 needs 0 c w k t (with_put c b x o (bytes_in extent) (new_cells f v x.cells o)) later u
      → HasTurns g c.turns (place_in g a end) after → Follows g j (weight + 3740) (Running work vs (with_put c b x o (bytes_in extent) (new_cells f v x.cells o))) (place_in g a end) u after

  -- what the meaning's store does
  is_stored : Behind → Fits f v → (j b : ℕ) → j < n → block_in c.frames i ≡ Some b → (s : Result Store Why) → write true f c.store b o v ≡ s → Follows g j (weight + 4000) (with_scene (stored c s) work vs) (place_in g a p) t seen
  is_stored behind fits j b lt named (Err why) e = nothing_follows g why j (weight + 4000) (place_in g a p) t seen
  is_stored behind fits j b lt named (Ok s2) e =
      let i2 : IsWrite true f c.store b o v s2 = writes_are_puts true f c.store b o v s2 e in
      let there = r.joins.stands.placed b i2.block i2.is i2.live in
      let at : IsAt c.store w b i2.block there.0 = record { is = i2.is; live = i2.live; place = there.1 } in
      let room : o + bytes_in extent ≤ i2.block.holds = omega (arith, i2.fits, size_is f scalar) in
      let known = is_there g a needs i c w k t placed r sized can b i2.block there.0 named at o (bytes_in extent) (omega (arith, room, r.joins.stands.whole b i2.block i2.is)) in
      let may : MayPut g a c w b i2.block there.0 o (bytes_in extent) = record { block = at; fits = room; own = known.own; writable = inr known.varying } in
      let same : s2 ≡ set_block c.store b (with_cells i2.block o (bytes_in extent) (new_cells f v i2.block.cells o)) = i2.store ∙ ap (λ y. set_block c.store b (with_cells i2.block o y (new_cells f v i2.block.cells o))) (size_is f scalar) in
      subst (λ z. Follows g j (weight + 4000) (Running work vs (with_store c z)) (place_in g a p) t seen) (sym same)
      (by_spot g a needs o f c w k t v j weight p work vs seen placed r scalar b i2.block there.0 may
      (λ l less. values_are_laid w f v t i2.block.cells o l scalar r.joins.bytes fits result (omega (arith, less, size_is f scalar))) turns (spot_of a.frame i o) known has (λ later u after taken h.
      behind j b i2.block later u after lt named taken h))

  is_put : Behind → Fits f v ⊎ (v ≡ NoValue) → (j b : ℕ) → j < n → block_in c.frames i ≡ Some b → Follows g j (weight + 4000) (with_scene (put true f c (values.Place b o) v) work vs) (place_in g a p) t seen
  is_put behind (inl fits) j b lt named =
      subst (λ s. Follows g j (weight + 4000) (with_scene s work vs) (place_in g a p) t seen) (sym (put_is f c b o v scalar fits)) (is_stored behind fits j b lt named (write true f c.store b o v) refl)
  is_put behind (inr e) j b lt named =
      subst (λ y. Follows g j (weight + 4000) (with_scene (put true f c (values.Place b o) y) work vs) (place_in g a p) t seen) (sym e) (nothing_follows g (By NoResult) j (weight + 4000) (place_in g a p) t seen)

  -- the object's block
  is_named : Behind → MayFit Valued f v → (j : ℕ) → j < n → (m : Option ℕ) → block_in c.frames i ≡ m → Follows g j (weight + 4000) (with_scene (put true f c (at_offset o (step.place_in m)) v) work vs) (place_in g a p) t seen
  is_named behind fits j lt None e = nothing_follows g _ j (weight + 4000) (place_in g a p) t seen
  is_named behind fits j lt (Some b) e =
      let on : o ≡ 0 + o = omega arith in
      subst (λ y. Follows g j (weight + 4000) (with_scene (put true f c (values.Place b y) v) work vs) (place_in g a p) t seen) on (is_put behind (fits_or_none f v scalar fits) j b lt e)

  pub begun : MayFit Valued f v → Behind → Follows g n weight (Running (Init i o f ∷ work) (v ∷ vs) c) (place_in g a p) t seen
  begun fits behind =
      steps_earn g n weight (Init i o f) work (v ∷ vs) c (place_in g a p) t seen (ready_is_calm g a 0 needs c w k t r).calm r.joins.output r.joins.ended (omega (arith, turns)) (λ j lt.
      subst (λ live. Follows g j (weight + 4000) (with_scene (put true f c (at_offset o (if live then step.place_in (block_in c.frames i) else Ok (values.Place (object_block (unit_in g) i) 0))) v) work vs) (place_in g a p) t seen) (sym can.lives)
      (is_named behind fits j lt (block_in c.frames i) refl))

pub values_are_begun : ValuesAreBegun
values_are_begun g a needs i o f c w k t v n weight p work vs seen placed has r sized scalar fits result can turns behind =
    begun g a needs i o f c w k t v n weight p work vs seen placed has r sized scalar result can turns fits behind
