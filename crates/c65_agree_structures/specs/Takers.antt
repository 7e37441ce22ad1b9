-- The objects that take what calls give are those of a function's own (C90 6.3.2.2).
use Rattle.std.specs.Prelude.{◌≡◌, ℕ, true, IsTrue, List, ◌++◌}
use Rattle.c65_ctype.specs.Trees.{QTy, type_in}
use Rattle.c65_csem.specs.Places.{is_small}
use Rattle.c65_csem.specs.Trees.{FuncTy}
use Rattle.c65_csem.specs.Typed.{IsSpot}
use Rattle.c65_csem_names.specs.Scopes.{IsInScope}
use Rattle.c65_meaning.specs.After.{is_among}
use Rattle.c65_genframe.specs.Objects.{locals_of}
use Rattle.c65_agree_state.specs.World.{World, unit_in, Active}
use Rattle.c65_agree_homes.specs.Frames.{IsCallIn}
use Rattle.c65_agree_structures.specs.Spills.{IsTaker}

-- In a call of a function of a plain program each of them has its home in the frame.
abbrev pub TakersAreHomed : Type 0
TakersAreHomed = (g : World) (names : List (List ℕ)) (a : Active) (f : FuncTy) (i : ℕ) (t : QTy) → IsCallIn g names a f → is_among (locals_of f) i ≡ true → IsSpot (unit_in g) i t → IsTrue (is_small (unit_in g).types (type_in t))
    → IsTaker g a i

-- So has each that is in scope, where in scope are parameters and objects of blocks of the function.
abbrev pub ScopedTakersAreHomed : Type 0
ScopedTakersAreHomed = (g : World) (names : List (List ℕ)) (a : Active) (f : FuncTy) (scope : List ℕ) (i : ℕ) (t : QTy) → IsCallIn g names a f
    → ((k : ℕ) → is_among scope k ≡ true → is_among (f.params ++ locals_of f) k ≡ true)
    → IsInScope (unit_in g) scope i → IsSpot (unit_in g) i t → IsTrue (is_small (unit_in g).types (type_in t)) → IsTaker g a i
