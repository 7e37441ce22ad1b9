-- What a program is refused for (C90 5.1.2.2.1, 6.1.2.2, 6.7).
use Rattle.std.specs.Prelude.{ℕ, ◌+◌, List, [], ◌∷◌, ◌++◌, Bool, true, false, not, ◌||◌, ◌&&◌, Option, Some, None, is_some, option_map, slice_get, Result, Ok, Err, if◌then◌else◌}
use Rattle.c65_base.specs.declared.names.Name.{Name}
use Rattle.c65_base.specs.declared.refusal.LinkKind.TheVariants as kinds
use Rattle.c65_ctype.specs.Trees.{function, QTy, qual, Fn, fn, Params, unknown, known, QTys, end, more, TypesTy}
use Rattle.c65_ctype.specs.Compatible.{are_compatible}
use Rattle.c65_csem.specs.declared.items.Class.{Class}
use Rattle.c65_csem.specs.declared.items.Class.TheVariants.{Declared}
use Rattle.c65_base.specs.declared.library.Library.{Library}
use Rattle.c65_csem.specs.Library.{library_type, library_at}
use Rattle.c65_csem.specs.Trees.{ObjectTy, FuncTy}
use Rattle.c65_init_join.specs.declared.table.Item.{Item}
use Rattle.c65_init_join.specs.declared.table.Item.TheVariants as items
use Rattle.c65_init_join.specs.declared.table.Place.{Place}
use Rattle.c65_init_join.specs.Answers.{JoinFault, ◌>>=◌, refused_if, refused_at}
use Rattle.c65_init_join.specs.Definitions.{own_prototype, agreeing}
use Rattle.c65_init_join.specs.Items.{ItemsTy}
use Rattle.c65_init_join.specs.Known.{main_named, main_spelling}
use Rattle.c65_init_join.specs.Prototypes.{main_alone, main_with_words}
use Rattle.c65_init_join.specs.Tables.{ExternalTy, TableTy, external_at, defined_in, defined_at, place_of}
use Rattle.c65_init_join.specs.Uses.{MarksTy, is_marked}

-- ---- Twice

abbrev pub is_func_item : Item → Bool
is_func_item (items.Func i) = true
is_func_item (items.Object i) = false

-- a declaration of a function
abbrev pub is_func : Option Place → Bool
is_func None = false
is_func (Some p) = is_func_item p.item

-- two units define the name, or a unit and the library, or one as an object and one as a function
abbrev pub is_twice : Option Library → ExternalTy → Bool
is_twice library e = e.twice || is_some (defined_in (Some e)) && is_some library || is_func e.definition && is_some e.tentative

abbrev pub twice_in : Option Library → Option ExternalTy → Bool
twice_in library None = false
twice_in library (Some e) = is_twice library e

abbrev pub is_twice_at : List (List ℕ) → TableTy → Name → Bool
is_twice_at names t n = twice_in (library_at names n.0) (external_at t n)

-- ---- TypesDiffer

abbrev pub function_type : Fn → QTy
function_type f = qual (function f) false false

abbrev pub item_in : Item → ItemsTy → Option QTy
item_in (items.Object i) u = option_map (λ o. o.ty) (slice_get u.objects i)
item_in (items.Func i) u = option_map (λ f. function_type (agreeing u.objects f)) (slice_get u.funcs i)

abbrev pub type_in_unit : Item → Option ItemsTy → Option QTy
type_in_unit item None = None
type_in_unit item (Some u) = item_in item u

-- the type of a declaration
abbrev pub type_at : List ItemsTy → Place → Option QTy
type_at us p = type_in_unit p.item (slice_get us p.unit)

abbrev pub meets_all : TypesTy → QTy → List QTy → Bool
meets_all types q [] = true
meets_all types q (r ∷ rs) = if are_compatible types r q then meets_all types q rs else false

-- the type of a function of the library, where plain char is signed or not
abbrev pub is_of_library : TypesTy → Library → QTy → Bool
is_of_library types library q = are_compatible types q (function_type (library_type false library)) || are_compatible types q (function_type (library_type true library))

abbrev pub meets_library : TypesTy → Option Library → QTy → Bool
meets_library types None q = true
meets_library types (Some library) q = is_of_library types library q

abbrev pub with_type : Option QTy → List QTy → List QTy
with_type None qs = qs
with_type (Some q) qs = q ∷ qs

abbrev pub types_at : List ItemsTy → List Place → List QTy
types_at us [] = []
types_at us (p ∷ ps) = with_type (type_at us p) (types_at us ps)

abbrev pub fits_all : TypesTy → Option Library → QTy → List QTy → Bool
fits_all types library q earlier = meets_all types q earlier && meets_library types library q

-- each type is compatible with each earlier one, and with the library's prototype
abbrev pub agree : TypesTy → Option Library → List QTy → List QTy → Bool
agree types library earlier [] = true
agree types library earlier (q ∷ qs) = if fits_all types library q earlier then agree types library (earlier ++ q ∷ []) qs else false

abbrev pub differ_in : List ItemsTy → TypesTy → Option Library → Option ExternalTy → Bool
differ_in us types library None = false
differ_in us types library (Some e) = not (agree types library [] (types_at us e.places))

unfoldable pub differs_at : List (List ℕ) → List ItemsTy → TypesTy → TableTy → Name → Bool
differs_at names us types t n = differ_in us types (library_at names n.0) (external_at t n)

-- ---- the sign of plain char

-- Plain char is signed where a declaration of a function of the library says so: its type is not the one that the
-- function has where plain char is unsigned.
abbrev pub is_signed_by : TypesTy → Option Library → List QTy → Bool
is_signed_by types None qs = false
is_signed_by types (Some library) qs = not (meets_all types (function_type (library_type false library)) qs)

abbrev pub signed_in : List ItemsTy → TypesTy → Option Library → Option ExternalTy → Bool
signed_in us types library None = false
signed_in us types library (Some e) = is_signed_by types library (types_at us e.places)

unfoldable pub is_signed_at : List (List ℕ) → List ItemsTy → TypesTy → TableTy → Name → Bool
is_signed_at names us types t n = signed_in us types (library_at names n.0) (external_at t n)

abbrev pub any_is : (Name → Bool) → List Name → Bool
any_is test [] = false
any_is test (n ∷ ns) = if test n then true else any_is test ns

abbrev pub has_signed_chars : List (List ℕ) → List ItemsTy → TypesTy → TableTy → Bool
has_signed_chars names us types t = any_is (is_signed_at names us types t) t.order

-- ---- Undefined

abbrev pub class_defined : Class → Option Place → Bool
class_defined Declared place = is_some place
class_defined _ place = true

abbrev pub is_object_defined : TableTy → ObjectTy → Bool
is_object_defined t o = class_defined o.class (place_of t o.name)

abbrev pub is_func_defined : List (List ℕ) → TableTy → FuncTy → Bool
is_func_defined names t f = is_some f.body || f.external && (is_some (library_at names f.name.0) || is_some (defined_at t f.name))

-- from number i on
abbrev pub objects_defined : List (List ℕ) → TableTy → List Bool → ℕ → List ObjectTy → Result (Unit {0}) JoinFault
objects_defined names t marks i [] = Ok tt
objects_defined names t marks i (o ∷ os) = refused_at names kinds.Undefined (is_marked marks i && not (is_object_defined t o)) o.name >>= (λ first. objects_defined names t marks (i + 1) os)

abbrev pub funcs_defined : List (List ℕ) → TableTy → List Bool → ℕ → List FuncTy → Result (Unit {0}) JoinFault
funcs_defined names t marks i [] = Ok tt
funcs_defined names t marks i (f ∷ fs) = refused_if names kinds.Undefined (is_marked marks i && not (is_func_defined names t f)) f.name >>= (λ first. funcs_defined names t marks (i + 1) fs)

-- what a unit's trees name is defined: its objects first
abbrev pub unit_defined : List (List ℕ) → TableTy → MarksTy → ItemsTy → Result (Unit {0}) JoinFault
unit_defined names t m u = objects_defined names t m.objects 0 u.objects >>= (λ first. funcs_defined names t m.funcs 0 u.funcs)

-- ---- Main

abbrev pub has_some : QTys → Bool
has_some end = false
has_some (more q qs) = true

abbrev pub has_words : Params → Bool
has_words unknown = false
has_words (known qs) = has_some qs

abbrev pub params_in : Fn → Params
params_in (fn q ps variadic cdecl) = ps

-- int main(int, char **), where plain char is signed or not
unfoldable pub has_main_words : TypesTy → QTy → Bool
has_main_words types q = are_compatible types q (function_type (main_with_words false)) || are_compatible types q (function_type (main_with_words true))

abbrev pub is_main_type : TypesTy → Bool → QTy → Bool
is_main_type types true q = has_main_words types q
is_main_type types false q = are_compatible types q (function_type main_alone)

-- a type that the main function may have
abbrev pub is_main : TypesTy → Fn → Bool
is_main types f = is_main_type types (has_words (params_in f)) (function_type f)

abbrev pub no_main : {A : Type 0} → Result A JoinFault
no_main = Err (record { kind = kinds.Main; name = main_spelling })

abbrev pub definition_in : Option ExternalTy → Option Place
definition_in None = None
definition_in (Some e) = e.definition

abbrev pub func_in : Item → ItemsTy → Option FuncTy
func_in (items.Object i) u = None
func_in (items.Func i) u = slice_get u.funcs i

abbrev pub func_in_unit : Item → Option ItemsTy → Option FuncTy
func_in_unit item None = None
func_in_unit item (Some u) = func_in item u

abbrev pub func_at : List ItemsTy → Place → Option FuncTy
func_at us p = func_in_unit p.item (slice_get us p.unit)

abbrev pub objects_in : Option ItemsTy → List ObjectTy
objects_in None = []
objects_in (Some u) = u.objects

abbrev pub objects_at : List ItemsTy → Place → List ObjectTy
objects_at us p = objects_in (slice_get us p.unit)

-- where the table has the name of the main function
abbrev pub main_place : TableTy → Option Name → Option Place
main_place t None = None
main_place t (Some n) = definition_in (external_at t n)

-- a main function in the old style has the prototype of its parameters
abbrev pub main_of : TypesTy → List ObjectTy → Option FuncTy → Result Name JoinFault
main_of types os None = no_main
main_of types os (Some f) = if is_main types (own_prototype os f.params f.ty) then Ok f.name else no_main

abbrev pub main_at : List ItemsTy → TypesTy → Option Place → Result Name JoinFault
main_at us types None = no_main
main_at us types (Some p) = main_of types (objects_at us p) (func_at us p)

-- the name of the main function, which is defined and has one of its types
abbrev pub main_in : List (List ℕ) → List ItemsTy → TypesTy → TableTy → Result Name JoinFault
main_in names us types t = main_at us types (main_place t (main_named 0 names))
