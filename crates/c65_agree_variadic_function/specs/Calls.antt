-- Calls of functions that take further arguments have what is asked of calls in expressions (C90 6.3.2.2; docs/MACHINE.md, "Calls").
use Rattle.std.specs.Prelude.{◌≡◌, ℕ, true, List}
use Rattle.c65_ctype.specs.Trees.{QTy, type_in}
use Rattle.c65_csem.specs.Trees.{Nodes, Stmt, FuncTy}
use Rattle.c65_csem.specs.Typed.{IsCall, IsResult, AreTyped, result_of}
use Rattle.c65_csem_need.specs.Needs.{greatest_need}
use Rattle.c65_meaning.specs.Shapes.{shape_of, types_of}
use Rattle.c65_meaning.specs.Calls.{accepts}
use Rattle.c65_genframe.specs.Frames.{Framed}
use Rattle.c65_genexpr.specs.Arguments.{is_counted}
use Rattle.c65_agree_state.specs.World.{World, unit_in}
use Rattle.c65_agree_function.specs.Functions.{end_line}
use Rattle.c65_agree_bodies.specs.Bodies.{Allotted, AllBodiesDo}
use Rattle.c65_agree_invoke.specs.Accepted.{IsDeclared}
use Rattle.c65_agree_slots.specs.Functions.{any_call}
use Rattle.c65_agree_variadic_call.specs.Callees.{IsFurtherCallee, FurtherBodiesDo}
use Rattle.c65_agree_variadic_function.specs.Functions.{IsFurtherFunctionOf}

-- A well typed call that the meaning accepts of such a function, in whichever function of the program it stands, passes what that one takes,
-- with the number of bytes. It is given that types without a prototype name no further arguments.
abbrev pub FurtherCallsHaveCallees : Type 0
FurtherCallsHaveCallees = (g : World) (names : List (List ℕ)) (i : ℕ) (h : Framed) (function : FuncTy) (body : Stmt) (f : Framed) (t c : QTy) (es : Nodes)
    → IsFurtherFunctionOf g names i h function body → f.parts ≡ g.parts → (call : IsCall (unit_in g) t c es) → IsDeclared call.callee → IsDeclared function.ty → AreTyped (unit_in g) es
    → accepts (unit_in g) (type_in c) (types_of es) function ≡ true
    → (is_counted (type_in c) ≡ true) × IsFurtherCallee g f i h (greatest_need body) 5 (end_line g (any_call g i h) body) function body es

-- Where all bodies do their work, that of each such function does, as a call of it asks.
abbrev pub BodiesServeFurtherCalls : Type 0
BodiesServeFurtherCalls = (g : World) (names : List (List ℕ)) (i : ℕ) (h : Framed) (function : FuncTy) (body : Stmt) (z : Allotted) (n : ℕ)
    → IsFurtherFunctionOf g names i h function body → AllBodiesDo g z n → FurtherBodiesDo g i h (z.needs i) (z.spare i) body (z.result i) n

-- So it is as an accepted call asks, which takes values of its own type.
abbrev pub AcceptedBodiesServeFurtherCalls : Type 0
AcceptedBodiesServeFurtherCalls = (g : World) (names : List (List ℕ)) (i : ℕ) (h : Framed) (function : FuncTy) (body : Stmt) (z : Allotted) (n : ℕ) (t c : QTy) (es : Nodes)
    → IsFurtherFunctionOf g names i h function body → AllBodiesDo g z n → z.result i ≡ shape_of (unit_in g).types (type_in (result_of function.ty))
    → IsCall (unit_in g) t c es → IsResult (unit_in g) t → accepts (unit_in g) (type_in c) (types_of es) function ≡ true
    → FurtherBodiesDo g i h (z.needs i) (z.spare i) body (shape_of (unit_in g).types (type_in t)) n
