-- The call of `printf` (C90 7.9.6.3), whose arguments all wait on the software stack.
use Rattle.std.specs.Prelude.{◌≡◌, ℕ, suc, ◌+◌, ◌<◌, List, [], ◌∷◌, Some, length, slice_get}
use Rattle.c65_base.specs.declared.library.Library.TheVariants.{Printf}
use Rattle.c65_mach.specs.declared.rows.Op.TheVariants.{Ldy}
use Rattle.c65_meaning.specs.Store.{Cell, Value, nth_cell}
use Rattle.c65_meaning.specs.Items.{Item}
use Rattle.c65_meaning.specs.State.{Scene, Running}
use Rattle.c65_meaning.specs.Step.{perform, provided}
use Rattle.c65_code.specs.LineState.{State, sp_of, word_at}
use Rattle.c65_code.specs.Placement.{IsPlacement}
use Rattle.c65_code.specs.Comes.{Seen}
use Rattle.c65_genwide.specs.Lines.{value}
use Rattle.c65_agree_store.specs.Stands.{Placing, Banks, CellIs, ValueIs}
use Rattle.c65_agree_state.specs.World.{World, Active, program_in, lines_of, place_in, HasTurns}
use Rattle.c65_agree_state.specs.Follows.{Follows}
use Rattle.c65_agree_state.specs.Exprs.{Ready}
use Rattle.c65_agree_library.specs.Calls.{IsLibraryCall, IsServed}

-- The cells of the further arguments lie from sp up, those of the first one highest, and the format's address above them.
pub record AreGiven (w : Placing) (format : Value) (rest : List Cell) (t : State) : Type 0 where
  pub cells : (i : ℕ) → i < length rest → CellIs w (nth_cell rest i) (t.mem (sp_of t + i))
  pub format_is : ValueIs w 65536 format (word_at t.mem (sp_of t + length rest))

-- Y says how many bytes all these are
abbrev pub AreCounted : List Cell → State → Type 0
AreCounted rest t = t.regs.y ≡ length rest + 2

-- Where the step of an item is the call of `printf` with this format and these further cells, and they wait and are counted at a line
-- that calls it: what is followed behind that line goes on from before it.
abbrev pub PrintfIsFollowed : Type 0
PrintfIsFollowed = (g : World) (a : Active) (pushed needs : ℕ) (c : Scene) (w : Placing) (banks : Banks) (t : State) (n v p : ℕ) (i : Item) (k : List Item) (format : Value) (ws vs : List Value) (rest : List Cell) (seen : Seen)
    → IsPlacement g.code g.place → IsLibraryCall g a Printf p t → Ready g a (pushed + (length rest + 2)) needs c w banks t → AreGiven w format rest t → AreCounted rest t
    → HasTurns g c.turns (place_in g a p) seen → perform (program_in g) i k ws c ≡ provided Printf (format ∷ []) rest k vs c
    → ((j : ℕ) (r : Value) (c2 : Scene) (u : State) (later : Seen) → j < n → IsServed g a Printf pushed needs (length rest + 2) c w banks t r c2 u → HasTurns g c2.turns (place_in g a (suc p)) later
    → Follows g j (v + 2600) (Running k (r ∷ vs) c2) (place_in g a (suc p)) u later)
    → Follows g n v (Running (i ∷ k) ws c) (place_in g a p) t seen

-- the same where the line before it counts them
abbrev pub CountedPrintfIsFollowed : Type 0
CountedPrintfIsFollowed = (g : World) (a : Active) (pushed needs : ℕ) (c : Scene) (w : Placing) (banks : Banks) (t : State) (n v p : ℕ) (i : Item) (k : List Item) (format : Value) (ws vs : List Value) (rest : List Cell) (seen : Seen)
    → IsPlacement g.code g.place → slice_get (lines_of g a) p ≡ Some (value Ldy (length rest + 2)) → IsLibraryCall g a Printf (suc p) t → length rest + 2 < 256
    → Ready g a (pushed + (length rest + 2)) needs c w banks t → AreGiven w format rest t
    → HasTurns g c.turns (place_in g a p) seen → perform (program_in g) i k ws c ≡ provided Printf (format ∷ []) rest k vs c
    → ((j : ℕ) (r : Value) (c2 : Scene) (u : State) (later : Seen) → j < n → IsServed g a Printf pushed needs (length rest + 2) c w banks t r c2 u → HasTurns g c2.turns (place_in g a (suc (suc p))) later
    → Follows g j (v + 2600) (Running k (r ∷ vs) c2) (place_in g a (suc (suc p))) u later)
    → Follows g n (1 + v) (Running (i ∷ k) ws c) (place_in g a p) t seen
