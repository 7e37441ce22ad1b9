-- What the units say of each name of external linkage (C90 6.1.2.2, 6.7, 6.7.2).
use Rattle.std.specs.Prelude.{ℕ, zero, suc, ◌+◌, ◌==◌, List, [], ◌∷◌, ◌++◌, length, map, replicate, Bool, true, false, ◌||◌, ◌&&◌, Option, Some, None, is_some, slice_get, if◌then◌else◌}
use Rattle.c65_base.specs.declared.names.Name.{Name}
use Rattle.c65_csem.specs.declared.items.Class.{Class}
use Rattle.c65_csem.specs.declared.items.Class.TheVariants as c
use Rattle.c65_csem.specs.Trees.{ObjectTy, FuncTy}
use Rattle.c65_init_join.specs.declared.table.Item.{Item}
use Rattle.c65_init_join.specs.declared.table.Item.TheVariants as items
use Rattle.c65_init_join.specs.declared.table.Place.{Place}
use Rattle.c65_init_join.specs.declared.table.Defines.{Defines}
use Rattle.c65_init_join.specs.declared.table.Defines.TheVariants.{Wholly, Tentatively, Nothing}
use Rattle.c65_init_join.specs.declared.table.External.{External}
use Rattle.c65_init_join.specs.declared.table.Table.{Table}
use Rattle.c65_init_join.specs.Items.{ItemsTy}
use Rattle.c65_init_join.specs.Uses.{MarksTy, is_marked}

-- A name: where it is declared, in the order of the units; which declaration defines it, and which one does
-- tentatively; whether there are two definitions; whether a tree uses it; its item's number in the program.
pub record ExternalTy : Type 0 where
  pub places : List Place
  pub definition : Option Place
  pub tentative : Option Place
  pub twice : Bool
  pub is_used : Bool
  pub number : Option ℕ

abbrev pub external_of : External → ExternalTy
external_of e = record { places = e.places.items; definition = e.definition; tentative = e.tentative; twice = e.twice; is_used = e.is_used; number = e.number }

-- each name by its number, and the names in the order of their first declarations
pub record TableTy : Type 0 where
  pub externals : List ExternalTy
  pub order : List Name

abbrev pub table_of : Table → TableTy
table_of t = record { externals = map external_of t.externals.items; order = t.order.items }

-- ---- declarations

-- a declaration with external linkage
pub record DeclarationTy : Type 0 where
  pub name : Name
  pub place : Place
  pub defines : Defines

abbrev pub is_external : Class → Bool
is_external c.External = true
is_external c.Tentative = true
is_external c.Declared = true
is_external _ = false

abbrev pub object_defines : Class → Defines
object_defines c.External = Wholly
object_defines c.Tentative = Tentatively
object_defines _ = Nothing

abbrev pub func_defines : Bool → Defines
func_defines true = Wholly
func_defines false = Nothing

abbrev pub object_place : ℕ → ℕ → Place
object_place unit i = record { unit = unit; item = items.Object i }

abbrev pub func_place : ℕ → ℕ → Place
func_place unit i = record { unit = unit; item = items.Func i }

-- what an object without a name holds has no linkage
abbrev pub declared_as : Place → Defines → Option Name → List DeclarationTy
declared_as p d None = []
declared_as p d (Some n) = record { name = n; place = p; defines = d } ∷ []

-- the declaration of an item at a place, where it has external linkage
abbrev pub object_at : Place → ObjectTy → List DeclarationTy
object_at p o = if is_external o.class then declared_as p (object_defines o.class) o.name else []

abbrev pub func_at : Place → FuncTy → List DeclarationTy
func_at p f = if f.external then record { name = f.name; place = p; defines = func_defines (is_some f.body) } ∷ [] else []

-- those of a unit's objects from number i on
abbrev pub objects_declared : ℕ → ℕ → List ObjectTy → List DeclarationTy
objects_declared unit i [] = []
objects_declared unit i (o ∷ os) = object_at (object_place unit i) o ++ objects_declared unit (i + 1) os

abbrev pub funcs_declared : ℕ → ℕ → List FuncTy → List DeclarationTy
funcs_declared unit i [] = []
funcs_declared unit i (f ∷ fs) = func_at (func_place unit i) f ++ funcs_declared unit (i + 1) fs

-- in a unit the objects come before the functions
abbrev pub unit_declared : ℕ → ItemsTy → List DeclarationTy
unit_declared unit u = objects_declared unit 0 u.objects ++ funcs_declared unit 0 u.funcs

abbrev pub all_declared : ℕ → List ItemsTy → List DeclarationTy
all_declared unit [] = []
all_declared unit (u ∷ us) = unit_declared unit u ++ all_declared (unit + 1) us

-- ---- the table

abbrev pub undeclared : ExternalTy
undeclared = record { places = []; definition = None; tentative = None; twice = false; is_used = false; number = None }

abbrev pub no_declarations : ℕ → TableTy
no_declarations names = record { externals = replicate names undeclared; order = [] }

-- the first of two
abbrev pub or_else : {A : Type 0} → Option A → Option A → Option A
or_else None b = b
or_else (Some a) b = Some a

-- A second definition is one too many. Of tentative definitions the first one counts.
abbrev pub noted : Place → Defines → ExternalTy → ExternalTy
noted p Wholly e = record e { places = e.places ++ p ∷ []; definition = Some p; twice = e.twice || is_some e.definition }
noted p Tentatively e = record e { places = e.places ++ p ∷ []; tentative = or_else e.tentative (Some p) }
noted p Nothing e = record e { places = e.places ++ p ∷ [] }

-- one item of a list changed
abbrev pub changed : {A : Type 0} → (A → A) → List A → ℕ → List A
changed f [] i = []
changed f (x ∷ xs) zero = f x ∷ xs
changed f (x ∷ xs) (suc i) = x ∷ changed f xs i

abbrev pub external_at : TableTy → Name → Option ExternalTy
external_at t n = slice_get t.externals n.0

abbrev pub is_first : Option ExternalTy → Bool
is_first None = false
is_first (Some e) = length e.places == 0

abbrev pub entered : TableTy → DeclarationTy → TableTy
entered t d = record { externals = changed (noted d.place d.defines) t.externals d.name.0; order = if is_first (external_at t d.name) then t.order ++ d.name ∷ [] else t.order }

abbrev pub all_entered : TableTy → List DeclarationTy → TableTy
all_entered t [] = t
all_entered t (d ∷ ds) = all_entered (entered t d) ds

-- what all units say of so many names
abbrev pub declared_by : ℕ → List ItemsTy → TableTy
declared_by names us = all_entered (no_declarations names) (all_declared 0 us)

-- A definition with an initialiser comes before one without.
abbrev pub defined : ExternalTy → Option Place
defined e = or_else e.definition e.tentative

abbrev pub defined_in : Option ExternalTy → Option Place
defined_in None = None
defined_in (Some e) = defined e

-- the declaration that defines a name
abbrev pub defined_at : TableTy → Name → Option Place
defined_at t n = defined_in (external_at t n)

abbrev pub place_of : TableTy → Option Name → Option Place
place_of t None = None
place_of t (Some n) = defined_at t n

abbrev pub same_item : Item → Item → Bool
same_item (items.Object i) (items.Object j) = i == j
same_item (items.Func i) (items.Func j) = i == j
same_item _ _ = false

abbrev pub same_place : Place → Place → Bool
same_place p q = (p.unit == q.unit) && same_item p.item q.item

-- ---- uses

abbrev pub used : ExternalTy → ExternalTy
used e = record e { is_used = true }

abbrev pub with_use : TableTy → Name → TableTy
with_use t n = record { externals = changed used t.externals n.0; order = t.order }

abbrev pub use_if : Bool → TableTy → Name → TableTy
use_if b t n = if b then with_use t n else t

abbrev pub used_if : Bool → TableTy → Option Name → TableTy
used_if b t None = t
used_if b t (Some n) = use_if b t n

abbrev pub objects_used : List Bool → ℕ → List ObjectTy → TableTy → TableTy
objects_used marks i [] t = t
objects_used marks i (o ∷ os) t = objects_used marks (i + 1) os (used_if (is_external o.class && is_marked marks i) t o.name)

abbrev pub funcs_used : List Bool → ℕ → List FuncTy → TableTy → TableTy
funcs_used marks i [] t = t
funcs_used marks i (f ∷ fs) t = funcs_used marks (i + 1) fs (use_if (f.external && is_marked marks i) t f.name)

abbrev pub unit_used : ItemsTy → MarksTy → TableTy → TableTy
unit_used u m t = funcs_used m.funcs 0 u.funcs (objects_used m.objects 0 u.objects t)

-- ---- numbers

abbrev pub numbered : ℕ → ExternalTy → ExternalTy
numbered n e = record e { number = Some n }

abbrev pub with_number : TableTy → Name → ℕ → TableTy
with_number t name n = record { externals = changed (numbered n) t.externals name.0; order = t.order }

abbrev pub number_in : Option ExternalTy → Option ℕ
number_in None = None
number_in (Some e) = e.number

-- the number of a name's item
abbrev pub number_at : TableTy → Name → Option ℕ
number_at t n = number_in (external_at t n)

abbrev pub number_of : TableTy → Option Name → Option ℕ
number_of t None = None
number_of t (Some n) = number_at t n
