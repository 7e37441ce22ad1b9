-- Which items stand for their names in the program, and the number that each item of a unit has there.
use Rattle.std.specs.Prelude.{ℕ, ◌+◌, List, [], ◌∷◌, length, Bool, true, false, ◌&&◌, Option, Some, None, is_some, unwrap_or, slice_get, if◌then◌else◌}
use Rattle.c65_base.specs.declared.names.Name.{Name}
use Rattle.c65_csem.specs.Library.{library_at}
use Rattle.c65_csem.specs.Trees.{ObjectTy, FuncTy}
use Rattle.c65_init_join.specs.declared.numbers.Numbers.{Numbers}
use Rattle.c65_init_join.specs.declared.assign.Assigned.{Assigned}
use Rattle.c65_init_join.specs.declared.assign.Counts.{Counts}
use Rattle.c65_init_join.specs.declared.table.Place.{Place}
use Rattle.c65_init_join.specs.Items.{ItemsTy}
use Rattle.c65_init_join.specs.Tables.{ExternalTy, TableTy, external_at, place_of, is_external, same_place, object_place, func_place, with_number, number_at, number_of}

-- ---- which items the program keeps

abbrev pub is_at : Option Place → Place → Bool
is_at None p = false
is_at (Some q) p = same_place q p

-- an object without external linkage, or the definition of its name
abbrev pub is_kept_object : TableTy → Place → ObjectTy → Bool
is_kept_object t p o = if is_external o.class then is_at (place_of t o.name) p else true

-- of a used function of the library, its first declaration
abbrev pub is_kept_external : Bool → ExternalTy → Place → Bool
is_kept_external of_library e p = if is_some e.definition then is_at e.definition p else of_library && e.is_used && is_at (slice_get e.places 0) p

abbrev pub kept_in : Bool → Option ExternalTy → Place → Bool
kept_in of_library None p = false
kept_in of_library (Some e) p = is_kept_external of_library e p

abbrev pub is_kept_func : List (List ℕ) → TableTy → Place → FuncTy → Bool
is_kept_func names t p f = if f.external then kept_in (is_some (library_at names f.name.0)) (external_at t f.name) p else is_some f.body

-- of a unit's objects, from number i on
abbrev pub kept_objects : TableTy → ℕ → ℕ → List ObjectTy → List Bool
kept_objects t unit i [] = []
kept_objects t unit i (o ∷ os) = is_kept_object t (object_place unit i) o ∷ kept_objects t unit (i + 1) os

abbrev pub kept_funcs : List (List ℕ) → TableTy → ℕ → ℕ → List FuncTy → List Bool
kept_funcs names t unit i [] = []
kept_funcs names t unit i (f ∷ fs) = is_kept_func names t (func_place unit i) f ∷ kept_funcs names t unit (i + 1) fs

-- ---- numbers

-- those that are kept have numbers one after another
abbrev pub given_from : ℕ → List Bool → List (Option ℕ)
given_from n [] = []
given_from n (true ∷ ks) = Some n ∷ given_from (n + 1) ks
given_from n (false ∷ ks) = None ∷ given_from n ks

-- how many are kept, after n
abbrev pub count_from : ℕ → List Bool → ℕ
count_from n [] = n
count_from n (true ∷ ks) = count_from (n + 1) ks
count_from n (false ∷ ks) = count_from n ks

-- For the items of one unit: which of them the program keeps, and their numbers; the number of its first literal; and by
-- how much its tags are raised.
pub record AssignedTy : Type 0 where
  pub kept_objects : List Bool
  pub kept_funcs : List Bool
  pub objects : List (Option ℕ)
  pub funcs : List (Option ℕ)
  pub literals : ℕ
  pub tags : ℕ

abbrev pub assigned_of : Assigned → AssignedTy
assigned_of a = record { kept_objects = a.kept_objects.items; kept_funcs = a.kept_funcs.items; objects = a.objects.items; funcs = a.funcs.items; literals = a.literals; tags = a.tags }

-- how many objects, functions and literals have a number so far
pub record CountsTy : Type 0 where
  pub objects : ℕ
  pub funcs : ℕ
  pub literals : ℕ

abbrev pub counts_of : Counts → CountsTy
counts_of c = record { objects = c.objects; funcs = c.funcs; literals = c.literals }

abbrev pub no_counts : CountsTy
no_counts = record { objects = 0; funcs = 0; literals = 0 }

-- the number at a place of a list
abbrev pub given_at : List (Option ℕ) → ℕ → Option ℕ
given_at ns i = unwrap_or (slice_get ns i) None

-- a name's item has its number
abbrev pub number_noted : Bool → Option ℕ → TableTy → Name → TableTy
number_noted true (Some n) t name = with_number t name n
number_noted _ _ t name = t

abbrev pub number_kept : Bool → Option ℕ → TableTy → Option Name → TableTy
number_kept b n t None = t
number_kept b n t (Some name) = number_noted b n t name

abbrev pub objects_noted : List (Option ℕ) → ℕ → List ObjectTy → TableTy → TableTy
objects_noted ns i [] t = t
objects_noted ns i (o ∷ os) t = objects_noted ns (i + 1) os (number_kept (is_external o.class) (given_at ns i) t o.name)

abbrev pub funcs_noted : List (Option ℕ) → ℕ → List FuncTy → TableTy → TableTy
funcs_noted ns i [] t = t
funcs_noted ns i (f ∷ fs) t = funcs_noted ns (i + 1) fs (number_noted f.external (given_at ns i) t f.name)

-- the numbers of a unit's items that stand for their names
abbrev pub assigned : List (List ℕ) → TableTy → ℕ → CountsTy → ItemsTy → AssignedTy
assigned names t unit c u =
    record {
      kept_objects = kept_objects t unit 0 u.objects;
      kept_funcs = kept_funcs names t unit 0 u.funcs;
      objects = given_from c.objects (kept_objects t unit 0 u.objects);
      funcs = given_from c.funcs (kept_funcs names t unit 0 u.funcs);
      literals = c.literals;
      tags = u.tags;
    }

-- the counts behind them
abbrev pub counted : List (List ℕ) → TableTy → ℕ → CountsTy → ItemsTy → CountsTy
counted names t unit c u =
    record {
      objects = count_from c.objects (kept_objects t unit 0 u.objects);
      funcs = count_from c.funcs (kept_funcs names t unit 0 u.funcs);
      literals = c.literals + length u.literals;
    }

abbrev pub numbers_noted : AssignedTy → ItemsTy → TableTy → TableTy
numbers_noted a u t = funcs_noted a.funcs 0 u.funcs (objects_noted a.objects 0 u.objects t)

-- the numbers of all units, and the table with them; which items are kept does not depend on numbers
abbrev pub all_assigned : List (List ℕ) → ℕ → CountsTy → List ItemsTy → TableTy → List AssignedTy
all_assigned names unit c [] t = []
all_assigned names unit c (u ∷ us) t = assigned names t unit c u ∷ all_assigned names (unit + 1) (counted names t unit c u) us (numbers_noted (assigned names t unit c u) u t)

abbrev pub all_noted : List (List ℕ) → ℕ → CountsTy → List ItemsTy → TableTy → TableTy
all_noted names unit c [] t = t
all_noted names unit c (u ∷ us) t = all_noted names (unit + 1) (counted names t unit c u) us (numbers_noted (assigned names t unit c u) u t)

-- ---- items for which another declaration stands

-- For the items of one unit: the numbers of its objects and functions, none for an item that the program leaves out; the
-- number of its first literal; and by how much its tags are raised.
pub record NumbersTy : Type 0 where
  pub objects : List (Option ℕ)
  pub funcs : List (Option ℕ)
  pub literals : ℕ
  pub tags : ℕ

abbrev pub numbers_of : Numbers → NumbersTy
numbers_of n = record { objects = n.objects.items; funcs = n.funcs.items; literals = n.literals; tags = n.tags }

abbrev pub completed_objects : TableTy → List (Option ℕ) → ℕ → List ObjectTy → List (Option ℕ)
completed_objects t ns i [] = []
completed_objects t ns i (o ∷ os) = (if is_external o.class then number_of t o.name else given_at ns i) ∷ completed_objects t ns (i + 1) os

abbrev pub completed_funcs : TableTy → List (Option ℕ) → ℕ → List FuncTy → List (Option ℕ)
completed_funcs t ns i [] = []
completed_funcs t ns i (f ∷ fs) = (if f.external then number_at t f.name else given_at ns i) ∷ completed_funcs t ns (i + 1) fs

abbrev pub completed : TableTy → ItemsTy → AssignedTy → NumbersTy
completed t u a = record { objects = completed_objects t a.objects 0 u.objects; funcs = completed_funcs t a.funcs 0 u.funcs; literals = a.literals; tags = a.tags }
