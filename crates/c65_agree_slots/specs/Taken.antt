-- A call passes each argument in the bytes in which the function takes its parameter (C90 6.3.2.2; docs/MACHINE.md, "Calls").
use Rattle.std.specs.Prelude.{◌≡◌, ℕ, Bool, true, false, List}
use Rattle.c65_ctype.specs.Trees.{QTy, type_in}
use Rattle.c65_csem.specs.declared.items.Parts.{Parts}
use Rattle.c65_csem.specs.Trees.{Nodes, Stmt, UnitTy, FuncTy}
use Rattle.c65_csem.specs.Typed.{IsCall, AreTyped}
use Rattle.c65_csem.specs.Units.{IsBody}
use Rattle.c65_csem.specs.Views.{unit_of}
use Rattle.c65_meaning.specs.Shapes.{types_of}
use Rattle.c65_meaning.specs.Calls.{is_variadic, accepts}
use Rattle.c65_genframe.specs.Frames.{Framed, has_prototype}
use Rattle.c65_gen_law_stack.specs.Parameters.{AreTaken}
use Rattle.c65_agree_slots.specs.Slots.{AreOfSize}

-- Arguments of the types as which parameters are passed have their sizes, in whichever function of the program they stand.
abbrev pub TakenArgumentsHaveSizes : Type 0
TakenArgumentsHaveSizes = (parts : Parts) (prototype : Bool) (f : Framed) (is : List ℕ) (es : Nodes)
    → f.parts ≡ parts → AreTaken (unit_of parts) prototype es is → AreOfSize parts prototype f is es

-- Such are the arguments of a well typed call that the meaning accepts of a function that takes no further ones.
abbrev pub AcceptedArgumentsAreTaken : Type 0
AcceptedArgumentsAreTaken = (u : UnitTy) (t f : QTy) (es : Nodes) (g : FuncTy) (body : Stmt)
    → IsCall u t f es → AreTyped u es → IsBody u g body → is_variadic g.ty ≡ false → accepts u (type_in f) (types_of es) g ≡ true
    → AreTaken u (has_prototype g.ty) es g.params
