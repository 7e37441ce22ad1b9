-- What main takes and gives in a scoped program (C90 5.1.2.2.1).
use Rattle.std.specs.Prelude.{◌≡◌, Some, slice_get}
use Rattle.c65_ctype.specs.Trees.{type_in}
use Rattle.c65_csem.specs.Trees.{FuncTy}
use Rattle.c65_csem.specs.Typed.{result_of}
use Rattle.c65_csem_names.specs.Programs.{IsScopedProgram}
use Rattle.c65_meaning.specs.Store.{Shape}
use Rattle.c65_meaning.specs.Shapes.{shape_of}
use Rattle.c65_agree_state.specs.World.{World, unit_in, Active}
use Rattle.c65_agree_function.specs.Functions.{MainGives, TakesProgramArguments}

-- a call of main gives an int, where a call gives what its function's type says
abbrev pub MainsGiveInts : Type 0
MainsGiveInts = (g : World) (a : Active) (f : FuncTy) (result : Shape) → IsScopedProgram (unit_in g) g.main → slice_get (unit_in g).funcs a.func ≡ Some f
    → result ≡ shape_of (unit_in g).types (type_in (result_of f.ty)) → MainGives g a result

-- and main takes no arguments, or the number and the list of those of the program
abbrev pub MainsTakeArguments : Type 0
MainsTakeArguments = (g : World) (f : FuncTy) → IsScopedProgram (unit_in g) g.main → slice_get (unit_in g).funcs g.main ≡ Some f → TakesProgramArguments (unit_in g) f.params
