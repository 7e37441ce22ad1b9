-- A call that the meaning accepts and the function that it calls are of one convention (C90 6.3.2.2; docs/MACHINE.md, "Calls").
use Rattle.std.specs.Prelude.{◌≡◌, not, Bool, true, false, List}
use Rattle.c65_ctype.specs.Trees.{Ty, pointer, function, qual, Fn, fn, unknown, known}
use Rattle.c65_csem.specs.Trees.{FuncTy, UnitTy}
use Rattle.c65_meaning.specs.Calls.{accepts}
use Rattle.c65_genframe.specs.Frames.{is_variadic, takes_stack}
use Rattle.c65_genexpr.specs.Arguments.{is_fast, is_counted}

-- a type without a prototype says nothing of further arguments
abbrev pub IsDeclared : Fn → Type 0
IsDeclared (fn q unknown variadic cdecl) = variadic ≡ false
IsDeclared (fn q (known ps) variadic cdecl) = Unit {0}

-- The last argument stays in registers where the function takes it there, and the number of bytes is passed where it asks for that.
abbrev pub AcceptedCallsAgree : Type 0
AcceptedCallsAgree = (u : UnitTy) (f : Fn) (c v : Bool) (args : List Ty) (g : FuncTy) → IsDeclared f → IsDeclared g.ty → accepts u (pointer (qual (function f) c v)) args g ≡ true
    → (is_fast (pointer (qual (function f) c v)) ≡ not (takes_stack g.ty)) × (is_counted (pointer (qual (function f) c v)) ≡ is_variadic g.ty)
