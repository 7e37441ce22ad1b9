-- Arguments that wait, of which those behind the parameters are the further ones (C90 6.3.2.2, 6.7.1; docs/MACHINE.md, "Calls").
use Rattle.std.specs.Prelude.{◌≡◌, ◌+◌, ◌≤◌, true, false, List, length}
use Rattle.c65_csem.specs.Trees.{Nodes, FuncTy}
use Rattle.c65_meaning.specs.Shapes.{types_of}
use Rattle.c65_meaning.specs.Step.{further}
use Rattle.c65_code.specs.LineState.{State, sp_of}
use Rattle.c65_genframe.specs.Frames.{Framed, saved_bytes}
use Rattle.c65_agree_store.specs.Stands.{Placing}
use Rattle.c65_agree_state.specs.World.{World, unit_in, Active}
use Rattle.c65_agree_enter.specs.Laws.{IsAtEntry}
use Rattle.c65_agree_argument.specs.Arguments.{Argument, AreArguments, AreThere}
use Rattle.c65_agree_argument.specs.Passed.{all_bytes, values_of}
use Rattle.c65_agree_variadic.specs.Entries.{HasPassedFurther}
use Rattle.c65_agree_variadic_call.specs.Callees.{named_sizes, AreTakenAt}

-- At the first line of the function each argument lies where its parameter is taken from, and the further ones below them, where Y holds the
-- number of their bytes.
abbrev pub FurtherArgumentsArePassed : Type 0
FurtherArgumentsArePassed = (g : World) (a : Active) (f : Framed) (function : FuncTy) (es : Nodes) (xs : List Argument) (w : Placing) (t u : State)
    → AreArguments f es xs → AreThere false w t xs → AreTakenAt (unit_in g) f a.frame (a.frame.soft + saved_bytes a.frame.bank) function.params es → a.frame.variadic ≡ true → a.frame.stacked ≡ named_sizes f function.params es
    → a.raised ≡ length (further (unit_in g) function (types_of es) (values_of xs)) → a.base + (a.frame.soft + saved_bytes a.frame.bank) ≡ sp_of t → all_bytes xs ≤ 250
    → IsAtEntry a t u → u.regs.y ≡ all_bytes xs → HasPassedFurther g a function.params (values_of xs) (further (unit_in g) function (types_of es) (values_of xs)) w u
