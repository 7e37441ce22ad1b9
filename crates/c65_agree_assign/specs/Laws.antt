-- The lines that store a number put its cells.
use Rattle.std.specs.Prelude.{◌≡◌, ℕ, ◌+◌, ◌<◌, List, ◌∷◌, Ok, Some, length}
use Rattle.c65_meaning.specs.Store as values
use Rattle.c65_meaning.specs.Store.{Cell, Block, Value, Shape, new_cells}
use Rattle.c65_meaning.specs.Fits.{Fits}
use Rattle.c65_meaning.specs.Items.{Item, Put}
use Rattle.c65_meaning.specs.State as meaning
use Rattle.c65_meaning.specs.State.{Scene, Running}
use Rattle.c65_meaning.specs.Step.{loaded}
use Rattle.c65_code.specs.LineState.{State, eax_of}
use Rattle.c65_code.specs.Placement.{IsPlacement}
use Rattle.c65_code.specs.Comes.{Seen}
use Rattle.c65_genload.specs.declared.places.Extent.{Extent}
use Rattle.c65_genload.specs.declared.places.Place.{Place}
use Rattle.c65_genload.specs.declared.places.Access.TheVariants.{Whole}
use Rattle.c65_genload.specs.Places.{held}
use Rattle.c65_genload.specs.Stores.{bytes_store, store_code}
use Rattle.c65_agree_store.specs.Stands.{Spot, Placing, Banks, CellIs, beyond}
use Rattle.c65_agree_store.specs.Laws.{byte_of}
use Rattle.c65_agree_state.specs.World.{World, Active, lines_of, place_in, HasAt, HasTurns}
use Rattle.c65_agree_state.specs.Follows.{Follows}
use Rattle.c65_agree_state.specs.Exprs.{Ready, Valued, ResultIs, width_in}
use Rattle.c65_agree_put.specs.Puts.{IsOwn, MayPut, with_put, AreTaken}
use Rattle.c65_agree_put.specs.Laws.{IsScalar}
use Rattle.c65_agree_assign.specs.Places.{stored_spot, bytes_in, MayHold, IsStill, extent_in, kind_in}

-- the state behind the lines: the cells are put, an address that waited is taken off, and the value is still in its registers
pub record IsAssigned (g : World) (a : Active) (pushed needs : ℕ) (place : Place) (extent : Extent) (c : Scene) (w : Placing) (k : Banks) (b : ℕ) (x : Block) (o : ℕ) (new : ℕ → Cell) (t : State) (later : Banks) (u : State) : Type 0 where
  pub taken : AreTaken g a pushed needs (held place) c w k t (with_put c b x o (bytes_in extent) new) later u
  pub value : IsStill place extent t u

-- The lines that store a byte, a word or a long word into a live block, in regbank, near sp, at a symbol or at the address that waits, go
-- before what is followed behind them.
abbrev pub NumbersAreStored : Type 0
NumbersAreStored = (g : World) (a : Active) (pushed needs : ℕ) (place : Place) (extent : Extent) (c : Scene) (w : Placing) (k : Banks) (t : State) (b : ℕ) (x : Block) (q : Spot) (o : ℕ) (new : ℕ → Cell)
    (n v p turns : ℕ) (m : meaning.State) (seen : Seen)
    → IsPlacement g.code g.place → HasAt (lines_of g a) p (bytes_store place extent) → Ready g a (pushed + held place) needs c w k t
    → MayPut g a c w b x q o (bytes_in extent) → MayHold place extent → stored_spot g a t place ≡ beyond q o
    → ((i : ℕ) → i < bytes_in extent → CellIs w (new i) (byte_of i (eax_of t)))
    → HasTurns g turns (place_in g a p) seen
    → ((later : Banks) (u : State) (after : Seen) → IsAssigned g a pushed needs place extent c w k b x o new t later u → HasTurns g turns (place_in g a (p + length (bytes_store place extent))) after
    → Follows g n v m (place_in g a (p + length (bytes_store place extent))) u after)
    → Follows g n (v + 260) m (place_in g a p) t seen

-- a block stands where the lines store, or in the active call's regbank
abbrev pub IsMeant : World → Active → Placing → State → Place → ℕ → ℕ → ℕ → Type 0
IsMeant g a w t place b o n = (q : Spot) → w b ≡ Some q → IsOwn a q o n × (stored_spot g a t place ≡ beyond q o)

-- The step of an assignment, where the value is in the primary register: what it leaves is what the object then holds (C90 6.3.16).
abbrev pub AssignmentsAreFollowed : Type 0
AssignmentsAreFollowed = (g : World) (a : Active) (pushed needs : ℕ) (place : Place) (f : Shape) (c : Scene) (w : Placing) (k : Banks) (t : State) (b o : ℕ) (v : Value)
    (n weight p : ℕ) (work : List Item) (vs : List Value) (seen : Seen)
    → IsPlacement g.code g.place → HasAt (lines_of g a) p (bytes_store place (extent_in f)) → Ready g a (pushed + held place) needs c w k t
    → IsScalar f → Fits f v → ResultIs Valued w (width_in f) v t → MayHold place (extent_in f) → IsMeant g a w t place b o (bytes_in (extent_in f))
    → HasTurns g c.turns (place_in g a p) seen
    → ((j : ℕ) (x : Block) (v2 : Value) (later : Banks) (u : State) (after : Seen) → j < n
    → IsAssigned g a pushed needs place (extent_in f) c w k b x o (new_cells f v x.cells o) t later u
    → loaded f (with_put c b x o (bytes_in (extent_in f)) (new_cells f v x.cells o)) ((values.Place b o)) ≡ Ok v2
    → HasTurns g c.turns (place_in g a (p + length (bytes_store place (extent_in f)))) after
    → Follows g j (weight + 3740) (Running work (v2 ∷ vs) (with_put c b x o (bytes_in (extent_in f)) (new_cells f v x.cells o))) (place_in g a (p + length (bytes_store place (extent_in f)))) u after)
    → Follows g n weight (Running (Put f ∷ work) (v ∷ values.Place b o ∷ vs) c) (place_in g a p) t seen

-- with all lines of a store the primary register has the value again, a character in all of AX
abbrev pub ValuesAreAssigned : Type 0
ValuesAreAssigned = (g : World) (a : Active) (pushed needs : ℕ) (place : Place) (f : Shape) (c : Scene) (w : Placing) (k : Banks) (t : State) (b o : ℕ) (v : Value)
    (n weight p : ℕ) (work : List Item) (vs : List Value) (seen : Seen)
    → IsPlacement g.code g.place → HasAt (lines_of g a) p (store_code place (Whole (kind_in f))) → Ready g a (pushed + held place) needs c w k t
    → IsScalar f → Fits f v → ResultIs Valued w (width_in f) v t → MayHold place (extent_in f) → IsMeant g a w t place b o (bytes_in (extent_in f))
    → HasTurns g c.turns (place_in g a p) seen
    → ((j : ℕ) (x : Block) (v2 : Value) (later : Banks) (u : State) (after : Seen) → j < n
    → AreTaken g a pushed needs (held place) c w k t (with_put c b x o (bytes_in (extent_in f)) (new_cells f v x.cells o)) later u → ResultIs Valued w (width_in f) v u
    → loaded f (with_put c b x o (bytes_in (extent_in f)) (new_cells f v x.cells o)) (values.Place b o) ≡ Ok v2
    → HasTurns g c.turns (place_in g a (p + length (store_code place (Whole (kind_in f))))) after
    → Follows g j (weight + 3400) (Running work (v2 ∷ vs) (with_put c b x o (bytes_in (extent_in f)) (new_cells f v x.cells o))) (place_in g a (p + length (store_code place (Whole (kind_in f))))) u after)
    → Follows g n weight (Running (Put f ∷ work) (v ∷ values.Place b o ∷ vs) c) (place_in g a p) t seen
