-- Where the symbols of a program's functions, literals and objects lie (C90 6.1.2.1, 6.1.2.4, 6.1.4).
use Rattle.std.specs.Prelude.{◌≡◌, ℕ, ◌<◌, ◌++◌, Bool, true, List, Some, Ok, length}
use Rattle.c65_csem.specs.Trees.{Typed, ObjectTy, FuncTy}
use Rattle.c65_csem.specs.Typed.{IsTyped}
use Rattle.c65_csem.specs.Units.{IsProgram}
use Rattle.c65_csem_names.specs.Scopes.{IsScopedIn}
use Rattle.c65_csem_plain.specs.Plain.{IsPlain}
use Rattle.c65_meaning.specs.After.{is_among}
use Rattle.c65_meaning.specs.Shapes.{object_in}
use Rattle.c65_code.specs.declared.line.Sym.{Sym}
use Rattle.c65_code.specs.Placement.{IsPlacement, stack_end}
use Rattle.c65_genframe.specs.Objects.{locals_of}
use Rattle.c65_genframe.specs.Symbols.{numbers_of, object_symbol, literal_symbol, function_symbol}
use Rattle.c65_gendata.specs.Data.{is_placed}
use Rattle.c65_genload.specs.declared.places.Place.TheVariants.{Data}
use Rattle.c65_gendirect.specs.declared.direct.Direct.{Direct}
use Rattle.c65_genexpr.specs.Places.{place_of}
use Rattle.c65_genexpr.specs.Direct.{direct_of}
use Rattle.c65_genstmt.specs.Programs.{program_of}
use Rattle.c65_agree_state.specs.World.{World, unit_in, Active}
use Rattle.c65_agree_direct.specs.Operands.{IsLocated}
use Rattle.c65_agree_homes.specs.Frames.{IsCallIn}

-- ---- symbols

-- below the end of the software stack, where addresses have 16 bits
abbrev pub IsLow : World → Sym → Type 0
IsLow g s = g.place.address s.0 < stack_end

-- by its lines, or as a function of the library
abbrev pub FunctionsAreLow : Type 0
FunctionsAreLow = (g : World) (names : List (List ℕ)) (i : ℕ) → program_of g.parts g.main names g.modes ≡ Ok g.code → IsPlacement g.code g.place
    → IsProgram (unit_in g) g.main → IsPlain names (unit_in g) g.main → i < length (unit_in g).funcs → IsLow g (function_symbol (numbers_of g.parts) i)

-- by its datum
abbrev pub LiteralsAreLow : Type 0
LiteralsAreLow = (g : World) (names : List (List ℕ)) (l : ℕ) → program_of g.parts g.main names g.modes ≡ Ok g.code → IsPlacement g.code g.place
    → l < length g.parts.literals.items → IsLow g (literal_symbol (numbers_of g.parts) l)

abbrev pub ObjectsAreLow : Type 0
ObjectsAreLow = (g : World) (names : List (List ℕ)) (i : ℕ) (o : ObjectTy) → program_of g.parts g.main names g.modes ≡ Ok g.code → IsPlacement g.code g.place
    → object_in (unit_in g) i ≡ Some o → is_placed o.class ≡ true → IsLow g (object_symbol (numbers_of g.parts) i)

-- ---- trees

-- the automatic objects in scope are parameters of the function, and objects of its blocks
abbrev pub AreOwn : FuncTy → List ℕ → Type 0
AreOwn f scope = (i : ℕ) → is_among scope i ≡ true → is_among (f.params ++ locals_of f) i ≡ true

-- An object in scope that has no home in the frame has one place for the whole run: where lines know a place by a symbol, be it that of an
-- object, of a literal or of a part of one, this symbol is low.
abbrev pub PlacesAreLow : Type 0
PlacesAreLow = (g : World) (names : List (List ℕ)) (a : Active) (f : FuncTy) (variadic : Bool) (scope : List ℕ) (e : Typed) (pushed : ℕ) (s : Sym) (at : ℕ)
    → IsCallIn g names a f → IsPlacement g.code g.place → AreOwn f scope
    → IsTyped (unit_in g) e → IsScopedIn (unit_in g) variadic scope e → place_of a.frame pushed e ≡ Data s at → IsLow g s

-- and so is the symbol of an address that is read where it lies, also that of a function
abbrev pub AddressesAreLocated : Type 0
AddressesAreLocated = (g : World) (names : List (List ℕ)) (a : Active) (f : FuncTy) (variadic : Bool) (scope : List ℕ) (e : Typed)
    → IsCallIn g names a f → IsPlacement g.code g.place → AreOwn f scope
    → IsTyped (unit_in g) e → IsScopedIn (unit_in g) variadic scope e → (pushed : ℕ) (d : Direct) → direct_of a.frame pushed e ≡ Some d → IsLocated g d
