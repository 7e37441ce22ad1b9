-- Units taken apart: the tags of later units stand behind those of earlier ones, and are raised in all types (C90 6.5.2.3).
use Rattle.std.specs.Prelude.{ℕ, List, [], ◌∷◌, length, map}
use Rattle.c65_ctype.specs.Trees.{TypesTy}
use Rattle.c65_ctype.specs.Raised.{raised, raised_fn, appended}
use Rattle.c65_csem.specs.Trees.{ObjectTy, FuncTy, UnitTy}
use Rattle.c65_csem.specs.Views.{object_of, func_of}
use Rattle.c65_init_join.specs.declared.unit.Unit.{Unit as UnitParts}

-- a unit without its tags, which are by this number higher in the program
pub record ItemsTy : Type 0 where
  pub tags : ℕ
  pub objects : List ObjectTy
  pub literals : List (List ℕ)
  pub funcs : List FuncTy

abbrev pub items_of : UnitParts → ItemsTy
items_of u = record { tags = u.tags; objects = map object_of u.objects.items; literals = u.literals.items; funcs = map func_of u.funcs.items }

abbrev pub raised_object : ℕ → ObjectTy → ObjectTy
raised_object by o = record o { ty = raised by o.ty }

abbrev pub raised_func : ℕ → FuncTy → FuncTy
raised_func by f = record f { ty = raised_fn by f.ty }

abbrev pub raised_items : ℕ → UnitTy → ItemsTy
raised_items by u = record { tags = by; objects = map (raised_object by) u.objects; literals = u.literals; funcs = map (raised_func by) u.funcs }

-- the tags of all units, behind those that are there
abbrev pub all_types : TypesTy → List UnitTy → TypesTy
all_types types [] = types
all_types types (u ∷ us) = all_types (appended types u.types) us

abbrev pub all_items : TypesTy → List UnitTy → List ItemsTy
all_items types [] = []
all_items types (u ∷ us) = raised_items (length types.tags) u ∷ all_items (appended types u.types) us
