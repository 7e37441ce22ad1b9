-- Calls of the library's functions as the meaning calls them (C90 6.3.2.2).
use Rattle.std.specs.Prelude.{◌≡◌, ℕ, suc, ◌+◌, ◌<◌, List, [], ◌∷◌, Some, None, length, slice_get, take}
use Rattle.c65_base.specs.declared.library.Library.{Library}
use Rattle.c65_base.specs.declared.library.Library.TheVariants.{Printf}
use Rattle.c65_ctype.specs.Trees.{Ty}
use Rattle.c65_csem.specs.Trees.{FuncTy}
use Rattle.c65_meaning.specs.Store.{Cell, Value, Place}
use Rattle.c65_meaning.specs.Items.{Item, Invoke}
use Rattle.c65_meaning.specs.State.{Scene, Running}
use Rattle.c65_meaning.specs.Step.{taken, cells_behind}
use Rattle.c65_meaning.specs.Calls.{named_count}
use Rattle.c65_mach.specs.declared.rows.Op.TheVariants.{Ldy}
use Rattle.c65_code.specs.LineState.{State}
use Rattle.c65_code.specs.Placement.{IsPlacement}
use Rattle.c65_code.specs.Comes.{Seen}
use Rattle.c65_genwide.specs.Lines.{value}
use Rattle.c65_agree_store.specs.Stands.{Placing, Banks}
use Rattle.c65_agree_state.specs.World.{World, Active, unit_in, lines_of, place_in, HasTurns}
use Rattle.c65_agree_state.specs.Follows.{Follows}
use Rattle.c65_agree_state.specs.Exprs.{Ready}
use Rattle.c65_agree_library.specs.Calls.{IsLibraryCall, ArePassed, waiting_from, IsServed}
use Rattle.c65_agree_library_print.specs.Laws.{AreGiven}

-- Where the value that is called is the function: its arguments are those that it names, and a call that does not fit the function has
-- no meaning.
abbrev pub CalledIsFollowed : Library → Type 0
CalledIsFollowed f = (g : World) (a : Active) (pushed needs : ℕ) (c : Scene) (w : Placing) (banks : Banks) (t : State) (n v p h : ℕ) (callee : Ty) (types : List Ty) (entry : FuncTy) (k : List Item) (args ws vs : List Value) (seen : Seen)
    → IsPlacement g.code g.place → IsLibraryCall g a f p t
    → taken types [] ws ≡ Some (args, Place h 0 ∷ vs) → slice_get (unit_in g).funcs h ≡ Some entry → entry.body ≡ None → entry.library ≡ Some f
    → Ready g a (pushed + waiting_from (take (named_count entry.ty) args)) needs c w banks t → ArePassed w (take (named_count entry.ty) args) t → HasTurns g c.turns (place_in g a p) seen
    → ((j : ℕ) (r : Value) (c2 : Scene) (u : State) (later : Seen) → j < n → IsServed g a f pushed needs (waiting_from (take (named_count entry.ty) args)) c w banks t r c2 u → HasTurns g c2.turns (place_in g a (suc p)) later
    → Follows g j (v + 2600) (Running k (r ∷ vs) c2) (place_in g a (suc p)) u later)
    → Follows g n v (Running (Invoke callee types ∷ k) ws c) (place_in g a p) t seen

-- the functions of a fixed number of arguments
abbrev pub HasFixed : Library → Type 0
HasFixed Printf = ⊥
HasFixed f = Unit {0}

abbrev pub LibraryCallsAreFollowed : Type 0
LibraryCallsAreFollowed = (f : Library) → HasFixed f → CalledIsFollowed f

-- the cells of the arguments behind those that the function names
abbrev pub further_cells : World → FuncTy → List Ty → List Value → List Cell
further_cells g entry types args = cells_behind (unit_in g) (named_count entry.ty) types args

-- the same of `printf`, which names the format alone, behind the line that counts the arguments
abbrev pub PrintfCallsAreFollowed : Type 0
PrintfCallsAreFollowed = (g : World) (a : Active) (pushed needs : ℕ) (c : Scene) (w : Placing) (banks : Banks) (t : State) (n v p h : ℕ) (callee : Ty) (types : List Ty) (entry : FuncTy) (k : List Item) (args ws vs : List Value) (format : Value) (seen : Seen)
    → IsPlacement g.code g.place → slice_get (lines_of g a) p ≡ Some (value Ldy (length (further_cells g entry types args) + 2)) → IsLibraryCall g a Printf (suc p) t → length (further_cells g entry types args) + 2 < 256
    → taken types [] ws ≡ Some (args, Place h 0 ∷ vs) → slice_get (unit_in g).funcs h ≡ Some entry → entry.body ≡ None → entry.library ≡ Some Printf → take (named_count entry.ty) args ≡ format ∷ []
    → Ready g a (pushed + (length (further_cells g entry types args) + 2)) needs c w banks t → AreGiven w format (further_cells g entry types args) t → HasTurns g c.turns (place_in g a p) seen
    → ((j : ℕ) (r : Value) (c2 : Scene) (u : State) (later : Seen) → j < n → IsServed g a Printf pushed needs (length (further_cells g entry types args) + 2) c w banks t r c2 u → HasTurns g c2.turns (place_in g a (suc (suc p))) later
    → Follows g j (v + 2600) (Running k (r ∷ vs) c2) (place_in g a (suc (suc p))) u later)
    → Follows g n (1 + v) (Running (Invoke callee types ∷ k) ws c) (place_in g a p) t seen
