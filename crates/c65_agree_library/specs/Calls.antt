-- A call of a function of the library: how its arguments wait, and what it leaves (C90 7.9.6, 7.9.7, 7.11).
use Rattle.std.specs.Prelude.{◌≡◌, ℕ, suc, ◌+◌, ◌*◌, ◌<◌, ◌⊎◌, List, [], ◌∷◌, Some, reverse, length, slice_get}
use Rattle.c65_ints.specs.declared.types.IntType.TheVariants.{Int, UInt}
use Rattle.c65_base.specs.declared.library.Library.{Library}
use Rattle.c65_base.specs.declared.library.Library.TheVariants.{Memcpy, Memset, Strcpy, Strlen}
use Rattle.c65_meaning.specs.Store.{Cell, Value, Number, Pointer as Address}
use Rattle.c65_meaning.specs.Fits.{Fits}
use Rattle.c65_meaning.specs.Items.{Item}
use Rattle.c65_meaning.specs.State.{Scene, Running}
use Rattle.c65_meaning.specs.Step.{perform, provided}
use Rattle.c65_code.specs.declared.line.Line.TheVariants.{Call}
use Rattle.c65_code.specs.declared.line.Callee.TheVariants.{Pointer}
use Rattle.c65_code.specs.declared.parts.RegSet.{RegSet}
use Rattle.c65_code.specs.declared.routine.Routine.TheVariants as routines
use Rattle.c65_code.specs.Parts.{union_of, IsWithin as AreAmong}
use Rattle.c65_code.specs.Effects.{kept_at_calls, library_reads}
use Rattle.c65_code.specs.LineState.{State, sp_of, ax_of, word_at}
use Rattle.c65_code.specs.Placement.{IsPlacement}
use Rattle.c65_code.specs.Moves.{IsCallee}
use Rattle.c65_code.specs.Comes.{Seen}
use Rattle.c65_genwide.specs.Lines.{call}
use Rattle.c65_agree_store.specs.Stands.{Placing, Banks, ValueIs}
use Rattle.c65_agree_state.specs.World.{World, Active, program_in, setting_in, lines_of, place_in, HasTurns}
use Rattle.c65_agree_state.specs.Follows.{Follows}
use Rattle.c65_agree_state.specs.Exprs.{Ready}
use Rattle.c65_agree_put.specs.Puts.{AreTaken}

-- ---- arguments

-- words that wait on the software stack, from an address up
abbrev pub AreWaiting : Placing → List Value → ℕ → State → Type 0
AreWaiting w [] at t = Unit {0}
AreWaiting w (v ∷ vs) at t = ValueIs w 65536 v (word_at t.mem at) × AreWaiting w vs (at + 2) t

-- the last one is in AX, and those before it wait, the nearest to it at sp
abbrev pub AreFromLast : Placing → List Value → State → Type 0
AreFromLast w [] t = Unit {0}
AreFromLast w (v ∷ vs) t = ValueIs w 65536 v (ax_of t) × AreWaiting w vs (sp_of t) t

abbrev pub ArePassed : Placing → List Value → State → Type 0
ArePassed w args t = AreFromLast w (reverse args) t

-- the bytes that wait
abbrev pub waiting_from : List Value → ℕ
waiting_from [] = 0
waiting_from (v ∷ vs) = 2 * length vs

-- ---- results

-- a value of the type that the function's result has
abbrev pub Gives : Library → Value → Type 0
Gives Memcpy v = (size : ℕ) → Fits (Address size) v
Gives Memset v = (size : ℕ) → Fits (Address size) v
Gives Strcpy v = (size : ℕ) → Fits (Address size) v
Gives Strlen v = Fits (Number UInt) v
Gives f v = Fits (Number Int) v

-- Behind the call the arguments that waited are taken off, and the result is in AX and one of the function's type.
pub record IsServed (g : World) (a : Active) (f : Library) (pushed needs count : ℕ) (c : Scene) (w : Placing) (k : Banks) (t : State) (v : Value) (c2 : Scene) (u : State) : Type 0 where
  pub taken : AreTaken g a pushed needs count c w k t c2 k u
  pub value : ValueIs w 65536 v (ax_of u)
  pub gives : Gives f v

-- ---- calls

-- A call through ptr4, which has the function's address, and passes what its routine reads.
pub record IsPointedTo (g : World) (a : Active) (f : Library) (p : ℕ) (t : State) : Type 0 where
  pub reads : RegSet
  pub gives : RegSet
  pub symbol : ℕ
  pub there : slice_get (lines_of g a) p ≡ Some (Call (Pointer reads gives))
  pub callee : IsCallee (setting_in g) t symbol
  pub library : (setting_in g).library symbol ≡ Some f
  pub passes : AreAmong (library_reads f) (union_of reads kept_at_calls)

-- a line that calls the function: that of its routine, or one through a pointer
abbrev pub IsLibraryCall : World → Active → Library → ℕ → State → Type 0
IsLibraryCall g a f p t = (slice_get (lines_of g a) p ≡ Some (call (routines.Library f))) ⊎ IsPointedTo g a f p t

-- Where the step of an item is the call of a function with these arguments, and they are passed at a line that calls it: what is
-- followed behind that line goes on from before it.
abbrev pub CallsAreFollowed : Library → Type 0
CallsAreFollowed f = (g : World) (a : Active) (pushed needs : ℕ) (c : Scene) (w : Placing) (banks : Banks) (t : State) (n v p : ℕ) (i : Item) (k : List Item) (args ws vs : List Value) (rest : List Cell) (seen : Seen)
    → IsPlacement g.code g.place → IsLibraryCall g a f p t → Ready g a (pushed + waiting_from args) needs c w banks t → ArePassed w args t
    → HasTurns g c.turns (place_in g a p) seen → perform (program_in g) i k ws c ≡ provided f args rest k vs c
    → ((j : ℕ) (r : Value) (c2 : Scene) (u : State) (later : Seen) → j < n → IsServed g a f pushed needs (waiting_from args) c w banks t r c2 u → HasTurns g c2.turns (place_in g a (suc p)) later
    → Follows g j (v + 2600) (Running k (r ∷ vs) c2) (place_in g a (suc p)) u later)
    → Follows g n v (Running (i ∷ k) ws c) (place_in g a p) t seen
