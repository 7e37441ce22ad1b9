-- A scene in which cells are put belongs to the state in which their bytes are stored.
use Rattle.std.specs.Prelude.{◌≡◌, ℕ, ◌+◌, ◌<◌, ◌≤◌, Bool, true, false, List, length, Ok, Some}
use Rattle.c65_meaning.specs.Store.{Cell, Block, Store, Value, Shape, Number, Pointer, size_in, new_cells, set_block, write}
use Rattle.c65_meaning.specs.Fits.{Fits}
use Rattle.c65_meaning.specs.State.{Scene}
use Rattle.c65_code.specs.LineState.{State, sp_of, eax_of, IsBytes}
use Rattle.c65_code.specs.Placement.{IsPlacement}
use Rattle.c65_agree_store.specs.Stands.{Spot, At, Placing, Banks, CellIs}
use Rattle.c65_agree_store.specs.Laws.{with_cells, byte_of}
use Rattle.c65_agree_state.specs.World.{World, Active}
use Rattle.c65_agree_state.specs.Joins.{Joins, HasBank}
use Rattle.c65_agree_state.specs.Exprs.{Ready, Kept, Valued, ResultIs, width_in}
use Rattle.c65_agree_rows.specs.Rows.{ArePushed}
use Rattle.c65_agree_rows.specs.Laws.{Runs}
use Rattle.c65_agree_put.specs.Puts.{OnlyStored, AreLaid, MayPut, with_put, AreBanks, banks_in, AreTaken, Storing, storing_of, stored_size, taken_by, GoesTo, IsStored}

-- ---- scenes

abbrev pub PutsJoin : Type 0
PutsJoin = (g : World) (a : Active) (c : Scene) (w : Placing) (k later : Banks) (t u : State) (b : ℕ) (x : Block) (q : Spot) (o n : ℕ) (new : ℕ → Cell)
    → IsPlacement g.code g.place → Joins g a c w k t → MayPut g a c w b x q o n → OnlyStored a a.base q o n t u → AreLaid w q o n new u
    → AreBanks a k u later → Joins g a (with_put c b x o n new) w later u

-- where the bytes from sp on are as before but for those of the place, all is kept that an expression keeps
abbrev pub PutsAreKept : Type 0
PutsAreKept = (g : World) (a : Active) (pushed needs : ℕ) (c : Scene) (w : Placing) (k later : Banks) (t u : State) (b : ℕ) (x : Block) (q : Spot) (o n : ℕ) (new : ℕ → Cell)
    → IsPlacement g.code g.place → Ready g a pushed needs c w k t → MayPut g a c w b x q o n → OnlyStored a (sp_of t) q o n t u → AreLaid w q o n new u
    → AreBanks a k u later → sp_of u ≡ sp_of t → Kept g a c w k t (with_put c b x o n new) w later u

-- and the next part of an expression may begin there
abbrev pub PutsAreTaken : Type 0
PutsAreTaken = (g : World) (a : Active) (pushed needs count : ℕ) (c : Scene) (w : Placing) (k later : Banks) (t u : State) (b : ℕ) (x : Block) (q : Spot) (o n : ℕ) (new : ℕ → Cell)
    → IsPlacement g.code g.place → Ready g a (pushed + count) needs c w k t → MayPut g a c w b x q o n → OnlyStored a (sp_of t) q o n t u → AreLaid w q o n new u
    → AreBanks a k u later → sp_of u ≡ sp_of t + count → AreTaken g a pushed needs count c w k t (with_put c b x o n new) later u

-- the banks may be those of the state; and where the place is in memory they may stay
abbrev pub BanksFollow : Type 0
BanksFollow = (a : Active) (k : Banks) (t u : State) (o n : ℕ) → AreBanks a k u (banks_in a u k)
    × ((at : ℕ) → HasBank k (length a.behind) t → OnlyStored a (sp_of t) (At at) o n t u → AreBanks a k u k)

-- what waits is pushed before an expression and taken off behind it: all is kept that an expression keeps
abbrev pub WaitingIsKept : Type 0
WaitingIsKept = (g : World) (a : Active) (pushed needs : ℕ) (bytes : List ℕ) (c c2 c3 : Scene) (w w2 : Placing) (k k2 k3 : Banks) (t t1 t2 u : State)
    → ArePushed bytes t t1 → Kept g a c w k t1 c2 w2 k2 t2 → AreTaken g a pushed needs (length bytes) c2 w2 k2 t2 c3 k3 u → Kept g a c w k t c3 w2 k3 u

-- ---- values

-- what the meaning's store does: the cells of the value, in a live block in which they have room, and which is no const object unless
-- the value is an initial one (C90 6.3.16, 6.5.3)
pub record IsWrite (first : Bool) (f : Shape) (s : Store) (b o : ℕ) (v : Value) (s2 : Store) : Type 0 where
  pub block : Block
  pub is : s b ≡ Some block
  pub live : block.live ≡ true
  pub fits : o + size_in f ≤ block.holds
  pub may : first ≡ false → block.sealed ≡ false
  pub store : s2 ≡ set_block s b (with_cells block o (size_in f) (new_cells f v block.cells o))

abbrev pub WritesArePuts : Type 0
WritesArePuts = (first : Bool) (f : Shape) (s : Store) (b o : ℕ) (v : Value) (s2 : Store) → write first f s b o v ≡ Ok s2 → IsWrite first f s b o v s2

abbrev pub IsScalar : Shape → Type 0
IsScalar (Number t) = Unit {0}
IsScalar (Pointer size) = Unit {0}
IsScalar _ = ⊥

-- the bytes of the primary register may be laid down as the cells of the number or pointer that it has
abbrev pub ValuesAreLaid : Type 0
ValuesAreLaid = (w : Placing) (f : Shape) (v : Value) (t : State) (cells : ℕ → Cell) (o i : ℕ) → IsScalar f → IsBytes t → Fits f v → ResultIs Valued w (width_in f) v t
    → i < size_in f → CellIs w (new_cells f v cells o i) (byte_of i (eax_of t))

-- ---- routines

-- a routine that stores the bytes of cells into a live block
abbrev pub StoresRun : Type 0
StoresRun = (g : World) (a : Active) (pushed needs : ℕ) (c : Scene) (w : Placing) (k : Banks) (t : State) (store : Storing) (b : ℕ) (x : Block) (at o : ℕ) (new : ℕ → Cell)
    → IsPlacement g.code g.place → Ready g a (pushed + taken_by store) needs c w k t → MayPut g a c w b x (At at) o (stored_size store) → GoesTo store (at + o) t
    → ((i : ℕ) → i < stored_size store → CellIs w (new i) (byte_of i (eax_of t)))
    → Runs g (storing_of store) t (IsStored g a pushed needs c w k store b x o new t)
