-- What the functions of a program give (C90 5.1.2.2.1, 6.6.6.4; docs/MACHINE.md, "Calls").
use Rattle.std.specs.Prelude.{◌≡◌, ℕ, IsTrue, List, Some}
use Rattle.c65_csem.specs.Trees.{Stmt, FuncTy}
use Rattle.c65_csem_names.specs.Programs.{IsScopedProgram}
use Rattle.c65_code.specs.declared.parts.Part.TheVariants.{A}
use Rattle.c65_code.specs.Parts.{has_part}
use Rattle.c65_genstmt.specs.Functions.{gives_of}
use Rattle.c65_agree_state.specs.World.{World, unit_in, setting_in, Active}
use Rattle.c65_agree_homes.specs.Frames.{IsCallIn}

-- A function with a body gives the registers that the type of its result takes.
abbrev pub FunctionsGiveByType : Type 0
FunctionsGiveByType = (g : World) (names : List (List ℕ)) (b : Active) (function : FuncTy) (body : Stmt) → IsCallIn g names b function → function.body ≡ Some body
    → (setting_in g).gives b.symbol ≡ gives_of g.parts function

-- main gives an int, and so A (C90 5.1.2.2.1)
abbrev pub MainGivesA : Type 0
MainGivesA = (g : World) (names : List (List ℕ)) (b : Active) (function : FuncTy) (body : Stmt) → IsCallIn g names b function → function.body ≡ Some body
    → b.func ≡ g.main → IsScopedProgram (unit_in g) g.main → IsTrue (has_part ((setting_in g).gives b.symbol) A)
