-- Copies of structures and unions, byte by byte (C90 6.3.16.1).
use Rattle.std.specs.Prelude.{◌≡◌, ℕ, zero, suc, ◌+◌, ◌≤◌, false, Result, Ok, Some}
use Rattle.c65_meaning.specs.Why.{Why, ◌>>=◌}
use Rattle.c65_meaning.specs.Store.{Block, Value}
use Rattle.c65_meaning.specs.State.{Scene}
use Rattle.c65_meaning.specs.Step.{carried_byte}
use Rattle.c65_meaning.specs.Library.{overlap}
use Rattle.c65_code.specs.LineState.{State, ax_of, word_at, sp_of}
use Rattle.c65_agree_store.specs.Stands.{At, Placing, Banks, IsAt}
use Rattle.c65_agree_state.specs.World.{World, Active}
use Rattle.c65_agree_put.specs.Puts.{MayPut, with_put, AreTaken}

-- the scene behind so many bytes more of a copy
abbrev pub carried_on : ℕ → Value → Value → ℕ → ℕ → Scene → Result Scene Why
carried_on size from to done zero c = Ok c
carried_on size from to done (suc left) c = carried_byte false done size c from to >>= λ d. carried_on size from to (suc done) left d

-- the two places of a copy, by their blocks' addresses: one in AX, and the other one waits
pub record AreAtHand (w : Placing) (from_block from_offset to_block to_offset : ℕ) (t : State) : Type 0 where
  pub from : ℕ
  pub from_is : w from_block ≡ Some (At from)
  pub source : ax_of t ≡ from + from_offset
  pub to : ℕ
  pub to_is : w to_block ≡ Some (At to)
  pub target : word_at t.mem (sp_of t) ≡ to + to_offset

-- behind the copy the address that waited is taken off, and is in AX
pub record IsCopied (g : World) (a : Active) (pushed needs : ℕ) (c : Scene) (w : Placing) (k : Banks) (t : State) (c2 : Scene) (u : State) : Type 0 where
  pub taken : AreTaken g a pushed needs 2 c w k t c2 k u
  pub value : ax_of u ≡ word_at t.mem (sp_of t)

-- ---- the library's copy (C90 7.11.2.1)

-- so many cells of a live block, and a place for them in one that may be written
pub record AreCopied (g : World) (a : Active) (c : Scene) (w : Placing) (count b o d p : ℕ) (t : State) : Type 0 where
  pub source : Block
  pub from : ℕ
  pub source_at : IsAt c.store w b source (At from)
  pub source_fits : o + count ≤ source.holds
  pub block : Block
  pub to : ℕ
  pub may : MayPut g a c w d block (At to) p count
  pub apart : overlap count b o d p ≡ false
  -- the count in AX, and the two addresses that wait, that of the source last
  pub counted : ax_of t ≡ count
  pub source_is : word_at t.mem (sp_of t) ≡ from + o
  pub target_is : word_at t.mem (sp_of t + 2) ≡ to + p

-- the state behind it: the arguments that waited are taken off, and the target's address is in AX
pub record IsLibraryCopied (g : World) (a : Active) (pushed needs count o d p : ℕ) (c : Scene) (w : Placing) (k : Banks) (t : State) (source block : Block) (u : State) : Type 0 where
  pub taken : AreTaken g a pushed needs 4 c w k t (with_put c d block p count (λ i. source.cells (o + i))) k u
  pub value : ax_of u ≡ word_at t.mem (sp_of t + 2)
