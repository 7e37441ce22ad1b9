-- Calls of functions that take further arguments do the step of a call, and all that it leads to up to the line behind it.
use Rattle.std.specs.Prelude.{◌≡◌, ℕ, ◌+◌, ◌≤◌, List, [], ◌∷◌}
use Rattle.c65_ctype.specs.Trees.{Ty}
use Rattle.c65_csem.specs.Trees.{Stmt, FuncTy}
use Rattle.c65_meaning.specs.Store.{Value, Shape}
use Rattle.c65_meaning.specs.Items.{Item, Invoke}
use Rattle.c65_meaning.specs.State.{Scene, Running}
use Rattle.c65_code.specs.declared.line.Sym.{Sym}
use Rattle.c65_code.specs.declared.line.Line.TheVariants as lines
use Rattle.c65_code.specs.declared.line.Callee.TheVariants.{Function, Pointer}
use Rattle.c65_code.specs.declared.parts.RegSet.{RegSet}
use Rattle.c65_code.specs.Parts.{union_of}
use Rattle.c65_code.specs.Effects.{ptr4_bytes}
use Rattle.c65_code.specs.LineState.{State}
use Rattle.c65_code.specs.Placement.{IsPlacement}
use Rattle.c65_code.specs.Moves.{IsCallee}
use Rattle.c65_code.specs.Comes.{Seen}
use Rattle.c65_agree_store.specs.Stands.{Placing, Banks}
use Rattle.c65_agree_state.specs.World.{World, setting_in, Active, lines_of, place_in, HasAt, HasTurns}
use Rattle.c65_agree_state.specs.Follows.{Follows}
use Rattle.c65_agree_call.specs.Calls.{frame_behind, IsCallFrom}
use Rattle.c65_agree_variadic.specs.Calls.{MayGoFurther, further_whole_cost}

-- by name
abbrev pub FurtherCallsByNameAreFollowed : Type 0
FurtherCallsByNameAreFollowed = (g : World) (outer a : Active) (name : Sym) (reads gives : RegSet) (passed needs n v weight p e : ℕ) (callee : Ty) (func : FuncTy) (body : Stmt) (types : List Ty) (result : Shape) (args vs values : List Value) (below : List Item)
    (c : Scene) (w : Placing) (k : Banks) (t : State) (seen : Seen)
    → IsPlacement g.code g.place → IsCallFrom g outer a p gives t → name.0 ≡ a.symbol → HasAt (lines_of g outer) p (lines.Call (Function name reads gives) ∷ [])
    → MayGoFurther g outer a (frame_behind g outer p gives t) reads passed needs n weight p e func body types result args vs values below c w k t
    → further_whole_cost a + weight ≤ v + 4000 → HasTurns g c.turns (place_in g outer p) seen
    → Follows g n v (Running (Invoke callee types ∷ below) values c) (place_in g outer p) t seen

-- and through a pointer
abbrev pub FurtherCallsThroughPointersAreFollowed : Type 0
FurtherCallsThroughPointersAreFollowed = (g : World) (outer a : Active) (reads gives : RegSet) (passed needs n v weight p e : ℕ) (callee : Ty) (func : FuncTy) (body : Stmt) (types : List Ty) (result : Shape) (args vs values : List Value) (below : List Item)
    (c : Scene) (w : Placing) (k : Banks) (t : State) (seen : Seen)
    → IsPlacement g.code g.place → IsCallFrom g outer a p gives t → IsCallee (setting_in g) t a.symbol → HasAt (lines_of g outer) p (lines.Call (Pointer reads gives) ∷ [])
    → MayGoFurther g outer a (frame_behind g outer p gives t) (union_of reads ptr4_bytes) passed needs n weight p e func body types result args vs values below c w k t
    → further_whole_cost a + weight ≤ v + 4000 → HasTurns g c.turns (place_in g outer p) seen
    → Follows g n v (Running (Invoke callee types ∷ below) values c) (place_in g outer p) t seen
