-- Well typed calls of functions of the library (C90 6.3.2.2, 7.1.7).
use Rattle.std.specs.Prelude.{◌≡◌, ℕ, ◌≤◌, Bool, true, Some, None, slice_get}
use Rattle.c65_base.specs.declared.library.Library.{Library}
use Rattle.c65_ctype.specs.Trees.{QTy, type_in}
use Rattle.c65_csem.specs.Library.{library_type}
use Rattle.c65_csem.specs.Trees.{Nodes, FuncTy}
use Rattle.c65_csem.specs.Typed.{IsCall, AreTyped}
use Rattle.c65_csem.specs.Views.{unit_of}
use Rattle.c65_csem_names.specs.Library.{HaveLibraryTypes}
use Rattle.c65_meaning.specs.Shapes.{types_of}
use Rattle.c65_meaning.specs.Calls.{accepts}
use Rattle.c65_genframe.specs.Frames.{Framed}
use Rattle.c65_agree_state.specs.World.{World, unit_in}
use Rattle.c65_agree_invoke.specs.Accepted.{IsDeclared}
use Rattle.c65_agree_invoke.specs.Nodes.{sizes_of}
use Rattle.c65_agree_library_expr.specs.Callees.{FitsLibrary, IsLibraryFunction}

-- One that the meaning accepts passes what the function takes, in whichever function of the program it stands, and has what it gives. It is
-- given that a type without a prototype names no further arguments.
abbrev pub AcceptedLibraryCallsFit : Type 0
AcceptedLibraryCallsFit = (f : Framed) (l : Library) (is_signed : Bool) (function : FuncTy) (t callee : QTy) (es : Nodes) (call : IsCall (unit_of f.parts) t callee es)
    → IsDeclared call.callee → AreTyped (unit_of f.parts) es → function.ty ≡ library_type is_signed l → accepts (unit_of f.parts) (type_in callee) (types_of es) function ≡ true
    → FitsLibrary (unit_of f.parts) f l (type_in t) (type_in callee) es

-- In a program whose functions of the library have their types, as in each scoped one, such a function has its type, and names as many
-- arguments as that of the library.
abbrev pub LibraryFunctionsHaveTypes : Type 0
LibraryFunctionsHaveTypes = (g : World) (i : ℕ) (l : Library) (function : FuncTy) → HaveLibraryTypes (unit_in g)
    → slice_get (unit_in g).funcs i ≡ Some function → function.body ≡ None → function.library ≡ Some l
    → ((is_signed : Bool) × (function.ty ≡ library_type is_signed l)) × IsLibraryFunction g i l function

-- The arguments of any well typed call take no more bytes than calls reach by Y.
abbrev pub TypedArgumentsAreFew : Type 0
TypedArgumentsAreFew = (f : Framed) (t callee : QTy) (es : Nodes) → IsCall (unit_of f.parts) t callee es → AreTyped (unit_of f.parts) es → sizes_of f es ≤ 250
