-- Behind a call all is kept that an expression keeps, where nothing waits below it.
use Rattle.std.proofs.Common.{ℕ, List, refl, arith}
use Rattle.c65_meaning.specs.Store.{Value, Shape}
use Rattle.c65_meaning.specs.State.{Scene}
use Rattle.c65_code.specs.declared.line.Line.{Line}
use Rattle.c65_code.specs.LineState.{State}
use Rattle.c65_agree_store.specs.Stands.{Placing, Banks}
use Rattle.c65_agree_state.specs.World.{World, Active}
use Rattle.c65_agree_state.specs.Exprs.{Kept}
use Rattle.c65_agree_argument.proofs.Over.{over_all}
use Rattle.c65_agree_invoke.specs.Targets.{IsReturned}

-- what waited nowhere is all taken off
pub all_returned : (g : World) (a : Active) (pushed : ℕ) (shape : Shape) (after : List Line) (c : Scene) (q : Placing) (b : Banks) (t : State) (v : Value) (c2 : Scene) (q2 : Placing) (b2 : Banks) (u : State) → IsReturned g a pushed 0 shape after c q b t v c2 q2 b2 u → Kept g a c q b t c2 q2 b2 u
all_returned g a pushed shape after c q b t v c2 q2 b2 u h = over_all g a 0 c c2 q q2 b b2 t u u h.over h.over.joins (omega arith) (λ n le. refl) h.over.none_pushed
