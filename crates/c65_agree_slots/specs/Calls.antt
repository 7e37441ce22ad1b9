-- Calls of the functions of a plain program have what is asked of calls in expressions (C90 6.3.2.2; docs/MACHINE.md, "Calls").
use Rattle.std.specs.Prelude.{◌≡◌, ℕ, true, false, List}
use Rattle.c65_ctype.specs.Trees.{QTy, type_in}
use Rattle.c65_csem.specs.Trees.{Nodes, Stmt, FuncTy}
use Rattle.c65_csem.specs.Typed.{IsCall, AreTyped}
use Rattle.c65_csem_need.specs.Needs.{greatest_need}
use Rattle.c65_meaning.specs.Shapes.{types_of}
use Rattle.c65_meaning.specs.Calls.{accepts}
use Rattle.c65_genframe.specs.Frames.{Framed}
use Rattle.c65_genexpr.specs.Arguments.{is_fast, is_counted}
use Rattle.c65_agree_state.specs.World.{World, unit_in}
use Rattle.c65_agree_function.specs.Functions.{end_line}
use Rattle.c65_agree_bodies.specs.Bodies.{Allotted, AllBodiesDo}
use Rattle.c65_agree_invoke.specs.Accepted.{IsDeclared}
use Rattle.c65_agree_invoke.specs.Nodes.{IsCallee, BodiesDo}
use Rattle.c65_agree_slots.specs.Functions.{bytes_to_spare, any_call, IsFunctionOf}

-- A well typed call that the meaning accepts of such a function, in whichever function of the program it stands, passes what that one takes,
-- without the number of bytes. It is given that a type without a prototype names no further arguments.
abbrev pub CallsHaveCallees : Type 0
CallsHaveCallees = (g : World) (names : List (List ℕ)) (i : ℕ) (h : Framed) (function : FuncTy) (body : Stmt) (f : Framed) (t c : QTy) (es : Nodes)
    → IsFunctionOf g names i h function body → f.parts ≡ g.parts → (call : IsCall (unit_in g) t c es) → IsDeclared call.callee → AreTyped (unit_in g) es
    → accepts (unit_in g) (type_in c) (types_of es) function ≡ true
    → (is_counted (type_in c) ≡ false) × IsCallee g f i h (greatest_need body) bytes_to_spare (end_line g (any_call g i h) body) function body (is_fast (type_in c)) es

-- Where all bodies do their work, that of each such function does, as a call of it asks.
abbrev pub BodiesServeCalls : Type 0
BodiesServeCalls = (g : World) (names : List (List ℕ)) (i : ℕ) (h : Framed) (function : FuncTy) (body : Stmt) (z : Allotted) (n : ℕ)
    → IsFunctionOf g names i h function body → AllBodiesDo g z n → BodiesDo g i h (z.needs i) (z.spare i) body (z.result i) n
