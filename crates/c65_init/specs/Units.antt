-- Units (C90 6.7): the typed parts as a function of the tree.
use Rattle.std.specs.Prelude.{ℕ, zero, suc, ◌+◌, min, List, [], ◌∷◌, length, Bool, true, false, ◌&&◌, Option, Some, None, slice_get, Result, Ok, if◌then◌else◌}
use Rattle.c65_base.specs.declared.names.Name.{Name}
use Rattle.c65_base.specs.declared.options.Options.{Options}
use Rattle.c65_base.specs.Answers.{Fault, ◌>>=◌}
use Rattle.c65_ctype.specs.Trees.{Ty, array, type_in}
use Rattle.c65_csem.specs.declared.items.Class.{Class}
use Rattle.c65_csem.specs.declared.items.Class.TheVariants.{Tentative, Static}
use Rattle.c65_csem.specs.Trees.{ObjectTy, UnitTy}
use Rattle.c65_elab_scope.specs.Scopes.{ScopeTy, nothing}
use Rattle.c65_elab_scope.specs.Parts.{completed}
use Rattle.c65_tree.specs.Trees.{ItemTree, declaration, definition, UnitTree}
use Rattle.c65_init.specs.declared.declare.TentativeObject.{TentativeObject}
use Rattle.c65_init.specs.Declarations.{LocalsTy, no_locals, size_needed, declaration_of}
use Rattle.c65_init.specs.Functions.{definition_of}
use Rattle.c65_init.specs.Settled.{functions_settled}
use Rattle.c65_init.specs.Fixed.{locals_fixed}

abbrev pub item_in : ItemTree → LocalsTy → ScopeTy → Result (LocalsTy × ScopeTy) Fault
item_in (declaration d) k s = declaration_of d k s
item_in (definition f) k s = definition_of f s >>= (λ u. Ok (k, u))

abbrev pub items_in : List ItemTree → LocalsTy → ScopeTy → Result (LocalsTy × ScopeTy) Fault
items_in [] k s = Ok (k, s)
items_in (i ∷ is) k s = do
  x ← item_in i k s
  items_in is x.0 x.1

-- an array that is defined without a number of elements has one (C90 6.7.2)
abbrev pub is_open_type : Ty → Bool
is_open_type (array q None) = true
is_open_type _ = false

abbrev pub is_open_class : Class → Bool
is_open_class Tentative = true
is_open_class Static = true
is_open_class _ = false

abbrev pub is_open_array : Option ObjectTy → Bool
is_open_array None = false
is_open_array (Some o) = is_open_type (type_in o.ty) && is_open_class o.class

abbrev pub array_completed : ScopeTy → ℕ → ScopeTy
array_completed s n = if is_open_array (slice_get s.unit.objects n) then completed s n 1 else s

-- so many objects from one on
abbrev pub arrays_from : ℕ → ℕ → ScopeTy → ScopeTy
arrays_from zero n s = s
arrays_from (suc turns) n s = arrays_from turns (n + 1) (array_completed s (min n 4294967295))

abbrev pub arrays_completed : ScopeTy → ScopeTy
arrays_completed s = arrays_from (length s.unit.objects) 0 s

-- At the end of the unit an object that was defined tentatively has a size (C90 6.7.2). The first definition of
-- which this is not so is refused.
abbrev pub all_sized : List TentativeObject → ScopeTy → Result (Unit {0}) Fault
all_sized [] s = Ok tt
all_sized (t ∷ ts) s = size_needed s t.object t.pos >>= (λ size. all_sized ts s)

-- a name stands for further arguments in the bodies of variadic functions
abbrev pub unit_in : UnitTree → Options → Name → Result UnitTy Fault
unit_in t o rest = do
  s ← nothing o.signed_chars rest
  u ← items_in t.items no_locals s
  sized ← all_sized u.0.tentative (arrays_completed u.1)
  Ok (locals_fixed o (functions_settled (arrays_completed u.1))).unit
