-- What holds of states between statements.
use Rattle.std.specs.Prelude.{ℕ, List}
use Rattle.c65_meaning.specs.State as meaning
use Rattle.c65_meaning.specs.State.{Scene}
use Rattle.c65_code.specs.LineState.{State}
use Rattle.c65_agree_store.specs.Stands.{Placing, Banks}
use Rattle.c65_agree_state.specs.World.{World, Active}
use Rattle.c65_agree_state.specs.Exprs.{Ready, Kept}
use Rattle.c65_agree_between.specs.Stmts.{Between, Keeping}

-- an expression may begin between two statements, and behind it the next statement may
abbrev pub BetweenIsReady : Type 0
BetweenIsReady = (g : World) (a : Active) (needs : ℕ) (scope : List ℕ) (c : Scene) (w : Placing) (k : Banks) (t : State)
    → Between g a needs scope c w k t → Ready g a 0 needs c w k t

abbrev pub BetweenStays : Type 0
BetweenStays = (g : World) (a : Active) (needs : ℕ) (scope : List ℕ) (c c2 : Scene) (w w2 : Placing) (k k2 : Banks) (t t2 : State)
    → Between g a needs scope c w k t → Kept g a c w k t c2 w2 k2 t2 → Between g a needs scope c2 w2 k2 t2

-- what the call has kept for the one behind it, it keeps over an expression
abbrev pub KeepingGoesOn : Type 0
KeepingGoesOn = (g : World) (a : Active) (needs : ℕ) (scope : List ℕ) (first c c2 : Scene) (w1 w w2 : Placing) (k1 k k2 : Banks) (t1 t t2 : State)
    → Keeping a first w1 k1 t1 c w k t → Between g a needs scope c w k t → Kept g a c w k t c2 w2 k2 t2 → Keeping a first w1 k1 t1 c2 w2 k2 t2
