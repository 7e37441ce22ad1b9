-- A program of units (C90 5.1.1.1, 5.1.2.2.1, 6.1.2.2, 6.7).
use Rattle.std.specs.Prelude.{ℕ, ◌+◌, List, [], ◌∷◌, ◌++◌, length, map, replicate, Bool, true, false, Option, Some, None, option_map, unwrap_or, Result, Ok}
use Rattle.c65_base.specs.declared.names.Name.{Name}
use Rattle.c65_base.specs.declared.refusal.LinkKind.TheVariants.{Twice, TypesDiffer}
use Rattle.c65_ctype.specs.Trees.{type_in, Fn, TypesTy}
use Rattle.c65_ctype.specs.Sizes.{size_of}
use Rattle.c65_ctype.specs.Tables.{no_tags}
use Rattle.c65_csem.specs.declared.items.Class.{Class}
use Rattle.c65_csem.specs.declared.items.Class.TheVariants as c
use Rattle.c65_csem.specs.declared.items.Cell.{Cell}
use Rattle.c65_csem.specs.declared.items.Cell.TheVariants.{Byte}
use Rattle.c65_base.specs.declared.library.Library.{Library}
use Rattle.c65_csem.specs.Library.{library_type, library_at}
use Rattle.c65_csem.specs.Trees.{Stmt, ObjectTy, FuncTy, UnitTy}
use Rattle.c65_init_join.specs.Answers.{JoinFault, ◌>>=◌, none_is}
use Rattle.c65_init_join.specs.Checks.{is_twice_at, differs_at, has_signed_chars, unit_defined, main_in}
use Rattle.c65_init_join.specs.Items.{ItemsTy, all_types, all_items}
use Rattle.c65_init_join.specs.Numbers.{AssignedTy, NumbersTy, no_counts, all_assigned, all_noted, completed}
use Rattle.c65_init_join.specs.Renumbered.{object_number, renumbered_stmt, renumbered_cell}
use Rattle.c65_init_join.specs.Tables.{TableTy, declared_by, unit_used, number_at}
use Rattle.c65_init_join.specs.Uses.{is_marked, uses_of}

-- ---- the items of the program

abbrev pub zeros : ℕ → List Cell
zeros n = replicate n (Byte 0)

-- An object that is defined without an initialiser begins with zero bytes (C90 6.5.7).
abbrev pub finished_by : TypesTy → NumbersTy → ObjectTy → Class → ObjectTy
finished_by types ns o c.Tentative = record o { class = c.External; init = Some (zeros (size_of types (type_in o.ty))) }
finished_by types ns o _ = record o { init = option_map (map (renumbered_cell ns)) o.init }

abbrev pub finished_object : TypesTy → NumbersTy → ObjectTy → ObjectTy
finished_object types ns o = finished_by types ns o o.class

-- a function without a body is of the library, and has its prototype; all have that of one sign of plain char
abbrev pub library_for : Option Stmt → Option Library → Option Library
library_for None library = library
library_for (Some body) library = None

abbrev pub type_by : Bool → Option Library → Fn → Fn
type_by is_signed None f = f
type_by is_signed (Some library) f = library_type is_signed library

abbrev pub or_library : Option Library → Option Library → Option Library
or_library None own = own
or_library (Some library) own = Some library

abbrev pub finished_as : Bool → NumbersTy → FuncTy → Option Library → FuncTy
finished_as is_signed ns f library = record f { ty = type_by is_signed library f.ty; params = map (object_number ns) f.params; body = option_map (renumbered_stmt ns) f.body; library = or_library library f.library }

abbrev pub finished_func : List (List ℕ) → Bool → NumbersTy → FuncTy → FuncTy
finished_func names is_signed ns f = finished_as is_signed ns f (library_for f.body (library_at names f.name.0))

abbrev pub one_if : {A : Type 0} → Bool → A → List A
one_if true x = x ∷ []
one_if false x = []

-- those items of a list, from number i on, that are marked
abbrev pub selected : {A : Type 0} → List Bool → ℕ → List A → List A
selected marks i [] = []
selected marks i (x ∷ xs) = one_if (is_marked marks i) x ++ selected marks (i + 1) xs

abbrev pub with_items : List (List ℕ) → Bool → AssignedTy → NumbersTy → UnitTy → ItemsTy → UnitTy
with_items names is_signed a ns p u =
    record {
      types = p.types;
      objects = p.objects ++ map (finished_object p.types ns) (selected a.kept_objects 0 u.objects);
      literals = p.literals ++ u.literals;
      funcs = p.funcs ++ map (finished_func names is_signed ns) (selected a.kept_funcs 0 u.funcs);
    }

-- the items of all units, with the numbers of each
abbrev pub with_all : List (List ℕ) → Bool → TableTy → UnitTy → List ItemsTy → List AssignedTy → UnitTy
with_all names is_signed t p [] ns = p
with_all names is_signed t p (u ∷ us) [] = p
with_all names is_signed t p (u ∷ us) (a ∷ rest) = with_all names is_signed t (with_items names is_signed a (completed t u a) p u) us rest

abbrev pub no_items : TypesTy → UnitTy
no_items types = record { types = types; objects = []; literals = []; funcs = [] }

abbrev pub parts_by : List (List ℕ) → TypesTy → List ItemsTy → TableTy → TableTy → UnitTy
parts_by names types us t noted = with_all names (has_signed_chars names us types t) noted (no_items types) us (all_assigned names 0 no_counts us t)

-- the program, and the number of its main function
abbrev pub program_by : List (List ℕ) → TypesTy → List ItemsTy → TableTy → Name → UnitTy × ℕ
program_by names types us t main = (parts_by names types us t (all_noted names 0 no_counts us t), unwrap_or (number_at (all_noted names 0 no_counts us t) main) 0)

-- ---- joining

-- what trees of a unit name is defined somewhere, and is used
abbrev pub all_used : List (List ℕ) → List ItemsTy → TableTy → Result TableTy JoinFault
all_used names [] t = Ok t
all_used names (u ∷ us) t = unit_defined names t (uses_of u) u >>= (λ each. all_used names us (unit_used u (uses_of u) t))

-- First the names that are defined twice are refused, then those whose types differ, each in the order of the units; then
-- the names that are used and defined nowhere; then a program without its main function.
abbrev pub checked_by : List (List ℕ) → TypesTy → List ItemsTy → TableTy → Result (TableTy × Name) JoinFault
checked_by names types us t = do
  once ← none_is names Twice (is_twice_at names t) t.order
  alike ← none_is names TypesDiffer (differs_at names us types t) t.order
  used ← all_used names us t
  main ← main_in names us types used
  Ok (used, main)

abbrev pub checked : List (List ℕ) → TypesTy → List ItemsTy → Result (TableTy × Name) JoinFault
checked names types us = checked_by names types us (declared_by (length names) us)

abbrev pub joined_items : List (List ℕ) → TypesTy → List ItemsTy → Result (UnitTy × ℕ) JoinFault
joined_items names types us = do
  x ← checked names types us
  Ok (program_by names types us x.0 x.1)

-- the program of units, and the number of its main function; or the first fault
abbrev pub joined : List (List ℕ) → List UnitTy → Result (UnitTy × ℕ) JoinFault
joined names us = joined_items names (all_types no_tags us) (all_items no_tags us)
