-- A routine that copies does what the steps of the meaning do, byte by byte.
use Rattle.std.specs.Prelude.{◌≡◌, ℕ, ◌+◌, ◌*◌, ◌<◌, List, ◌∷◌, Ok, length}
use Rattle.c65_base.specs.declared.library.Library.TheVariants.{Memcpy}
use Rattle.c65_meaning.specs.Store.{Value, Place}
use Rattle.c65_meaning.specs.Items.{Item, Carry}
use Rattle.c65_meaning.specs.State.{Scene, Running}
use Rattle.c65_code.specs.declared.routine.Routine.TheVariants.{CopyTos, Library}
use Rattle.c65_code.specs.LineState.{State}
use Rattle.c65_code.specs.Placement.{IsPlacement}
use Rattle.c65_code.specs.Comes.{Seen}
use Rattle.c65_genload.specs.Stores.{copy_code}
use Rattle.c65_agree_store.specs.Stands.{Placing, Banks}
use Rattle.c65_agree_state.specs.World.{World, Active, lines_of, place_in, HasAt, HasTurns}
use Rattle.c65_agree_state.specs.Follows.{Follows}
use Rattle.c65_agree_state.specs.Exprs.{Ready}
use Rattle.c65_agree_rows.specs.Laws.{Runs}
use Rattle.c65_agree_copy.specs.Copies.{carried_on, AreAtHand, IsCopied, AreCopied, IsLibraryCopied}

-- the routine, where the copy of the meaning is defined
abbrev pub CopiesRun : Type 0
CopiesRun = (g : World) (a : Active) (pushed needs size b o d p : ℕ) (c c2 : Scene) (w : Placing) (k : Banks) (t : State)
    → IsPlacement g.code g.place → Ready g a (pushed + 2) needs c w k t → AreAtHand w b o d p t → t.zp 12 + 256 * t.zp 13 ≡ size
    → carried_on size (Place b o) (Place d p) 0 size c ≡ Ok c2 → Runs g CopyTos t (IsCopied g a pushed needs c w k t c2)

-- the lines of a copy, where its two places are at hand: the meaning takes a step for each byte
abbrev pub CopiesAreFollowed : Type 0
CopiesAreFollowed = (g : World) (a : Active) (pushed needs size b o d p : ℕ) (c : Scene) (w : Placing) (banks : Banks) (t : State) (n v at : ℕ) (k : List Item) (vs : List Value) (seen : Seen)
    → IsPlacement g.code g.place → HasAt (lines_of g a) at (copy_code size) → size < 65536 → Ready g a (pushed + 2) needs c w banks t → AreAtHand w b o d p t → HasTurns g c.turns (place_in g a at) seen
    → ((j : ℕ) (c2 : Scene) (u : State) (later : Seen) → j < n → IsCopied g a pushed needs c w banks t c2 u → HasTurns g c2.turns (place_in g a (at + length (copy_code size))) later
    → Follows g j (v + 2600) (Running k (Place d p ∷ vs) c2) (place_in g a (at + length (copy_code size))) u later)
    → Follows g n v (Running (Carry 0 size ∷ k) (Place b o ∷ Place d p ∷ vs) c) (place_in g a at) t seen

-- the library's copy of areas that have no byte in common, by its routine
abbrev pub LibraryCopiesRun : Type 0
LibraryCopiesRun = (g : World) (a : Active) (pushed needs count b o d p : ℕ) (c : Scene) (w : Placing) (k : Banks) (t : State)
    → IsPlacement g.code g.place → Ready g a (pushed + 4) needs c w k t → (h : AreCopied g a c w count b o d p t)
    → Runs g (Library Memcpy) t (IsLibraryCopied g a pushed needs count o d p c w k t h.source h.block)
