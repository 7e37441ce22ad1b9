-- A call takes its result from where the function gives it (C90 6.3.2.2, 6.6.6.4; docs/MACHINE.md, "Calls").
use Rattle.std.specs.Prelude.{◌≡◌, ℕ, true, List, Some}
use Rattle.c65_ctype.specs.Trees.{QTy, type_in}
use Rattle.c65_csem.specs.Trees.{Nodes, Stmt, FuncTy}
use Rattle.c65_csem.specs.Typed.{IsCall, IsResult, result_of}
use Rattle.c65_meaning.specs.Store.{Value, Shape}
use Rattle.c65_meaning.specs.Items.{Item}
use Rattle.c65_meaning.specs.Shapes.{shape_of, types_of}
use Rattle.c65_meaning.specs.Calls.{accepts}
use Rattle.c65_genframe.specs.Frames.{Framed}
use Rattle.c65_agree_state.specs.World.{World, unit_in, setting_in, Active}
use Rattle.c65_agree_state.specs.Exprs.{Valued, MayFit, width_in}
use Rattle.c65_agree_homes.specs.Frames.{IsCallIn}
use Rattle.c65_agree_call.specs.Calls.{BodyDoes}
use Rattle.c65_agree_bodies.specs.Bodies.{Allotted, AllBodiesDo}
use Rattle.c65_agree_invoke.specs.Nodes.{BodiesDo, gives_in}
use Rattle.c65_agree_slots.specs.Functions.{IsFunctionOf}

-- A well typed call that the meaning accepts takes all of its result from the registers in which the function gives it, in whichever
-- function of the program the call stands, and whatever arguments the function takes.
abbrev pub CallsTakeWhatIsGiven : Type 0
CallsTakeWhatIsGiven = (g : World) (names : List (List ℕ)) (b : Active) (function : FuncTy) (body : Stmt) (f : Framed) (t c : QTy) (es : Nodes)
    → IsCallIn g names b function → function.body ≡ Some body → f.parts ≡ g.parts
    → IsCall (unit_in g) t c es → IsResult (unit_in g) t → accepts (unit_in g) (type_in c) (types_of es) function ≡ true
    → (setting_in g).gives b.symbol ≡ gives_in f t

-- ---- values

-- each value of the first shape is one of the second, in as many registers
abbrev pub IsNoWider : Shape → Shape → Type 0
IsNoWider from to = (width_in from ≡ width_in to) × ((v : Value) → MayFit Valued from v → MayFit Valued to v)

-- What the function gives is such a value as the call takes: pointers may point to arrays of which one type alone says the length.
abbrev pub ResultsHaveShapes : Type 0
ResultsHaveShapes = (g : World) (names : List (List ℕ)) (b : Active) (function : FuncTy) (body : Stmt) (t c : QTy) (es : Nodes)
    → IsCallIn g names b function → function.body ≡ Some body
    → IsCall (unit_in g) t c es → IsResult (unit_in g) t → accepts (unit_in g) (type_in c) (types_of es) function ≡ true
    → IsNoWider (shape_of (unit_in g).types (type_in (result_of function.ty))) (shape_of (unit_in g).types (type_in t))

-- A body that gives values of one shape does its work where those of a wider one are taken.
abbrev pub BodiesGiveWiderResults : Type 0
BodiesGiveWiderResults = (g : World) (a : Active) (needs : ℕ) (body : Stmt) (from to : Shape) (below : List Item) (vs : List Value) (n v : ℕ)
    → IsNoWider from to → BodyDoes g a needs body from below vs n v → BodyDoes g a needs body to below vs n v

-- So where all bodies do their work, that of the function does as an accepted call of it asks.
abbrev pub AcceptedBodiesServeCalls : Type 0
AcceptedBodiesServeCalls = (g : World) (names : List (List ℕ)) (i : ℕ) (h : Framed) (function : FuncTy) (body : Stmt) (z : Allotted) (n : ℕ) (t c : QTy) (es : Nodes)
    → IsFunctionOf g names i h function body → AllBodiesDo g z n → z.result i ≡ shape_of (unit_in g).types (type_in (result_of function.ty))
    → IsCall (unit_in g) t c es → IsResult (unit_in g) t → accepts (unit_in g) (type_in c) (types_of es) function ≡ true
    → BodiesDo g i h (z.needs i) (z.spare i) body (shape_of (unit_in g).types (type_in t)) n
