-- The arguments of a call of a function that takes further ones (C90 6.3.2.2).
use Rattle.std.specs.Prelude.{◌≡◌, ℕ, true, List, [], ◌∷◌}
use Rattle.c65_ctype.specs.Trees.{QTy, type_in}
use Rattle.c65_csem.specs.Trees.{Nodes, none, some, Stmt, UnitTy, FuncTy}
use Rattle.c65_csem.specs.Typed.{IsCall, AreTyped}
use Rattle.c65_csem.specs.Units.{IsBody}
use Rattle.c65_meaning.specs.Shapes.{types_of}
use Rattle.c65_meaning.specs.Calls.{is_variadic, accepts}
use Rattle.c65_genframe.specs.Frames.{has_prototype}
use Rattle.c65_gen_law_stack.specs.Parameters.{AreArguments, AreTaken}
use Rattle.c65_agree_invoke.specs.Accepted.{IsDeclared}

-- the first arguments, one for each of these parameters, and those behind them
abbrev pub named_of : List ℕ → Nodes → Nodes
named_of [] es = none
named_of (i ∷ is) none = none
named_of (i ∷ is) (some e es) = some e (named_of is es)

abbrev pub further_of : List ℕ → Nodes → Nodes
further_of [] es = es
further_of (i ∷ is) none = none
further_of (i ∷ is) (some e es) = further_of is es

-- the former are of the types as which the parameters are passed, and the latter may be passed
pub record AreTakenFurther (u : UnitTy) (g : FuncTy) (es : Nodes) : Type 0 where
  pub named : AreTaken u (has_prototype g.ty) (named_of g.params es) g.params
  pub further : AreArguments u (further_of g.params es)

-- Such are the arguments of a well typed call that the meaning accepts.
abbrev pub AcceptedFurtherArgumentsAreTaken : Type 0
AcceptedFurtherArgumentsAreTaken = (u : UnitTy) (t f : QTy) (es : Nodes) (g : FuncTy) (body : Stmt)
    → IsCall u t f es → AreTyped u es → IsBody u g body → IsDeclared g.ty → is_variadic g.ty ≡ true → accepts u (type_in f) (types_of es) g ≡ true
    → AreTakenFurther u g es
