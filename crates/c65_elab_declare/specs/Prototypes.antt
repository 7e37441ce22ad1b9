-- Parameters of prototypes (C90 6.5.4.3).
use Rattle.std.specs.Prelude.{ℕ, ◌+◌, List, [], ◌∷◌, Bool, true, false, ◌&&◌, not, is_some, Option, Some, None, nat_lt, Result, Ok, Err, if◌then◌else◌}
use Rattle.c65_base.specs.declared.code.Code.TheVariants.{StorageClass}
use Rattle.c65_base.specs.declared.names.Name.{Name}
use Rattle.c65_base.specs.declared.refusal.Pos.{Pos}
use Rattle.c65_base.specs.declared.refusal.Size.TheVariants.{ArgumentBytes}
use Rattle.c65_base.specs.Answers.{Fault, at, large, ◌>>=◌}
use Rattle.c65_tree.specs.declared.expr.Storage.{Storage}
use Rattle.c65_tree.specs.declared.expr.Storage.TheVariants.{Register}
use Rattle.c65_tree.specs.declared.expr.Specifier.{Specifier}
use Rattle.c65_tree.specs.Trees as t
use Rattle.c65_tree.specs.View.{specifier_of}
use Rattle.c65_ctype.specs.Trees.{Ty, void, tag, QTy, qual, type_in, TypesTy}
use Rattle.c65_ctype.specs.Sizes.{size_at}
use Rattle.c65_elab_convert.specs.Structures.{structure_size}
use Rattle.c65_elab_scope.specs.Scopes.{ScopeTy}
use Rattle.c65_elab_scope.specs.Declaring.{declared}
use Rattle.c65_elab_declare.specs.Declarators.{FormalTy, adjusted}

abbrev pub storage_at : t.SpecifierTree → Option Pos
storage_at (t.storage p c) = Some p
storage_at _ = None

abbrev pub or_else : {A : Type 0} → Option A → Option A → Option A
or_else (Some x) y = Some x
or_else None y = y

-- the place of the first storage class
abbrev pub first_storage : t.SpecifierList → Option Pos
first_storage t.no_specifiers = None
first_storage (t.and_specifier qs q) = or_else (first_storage qs) (storage_at q)

-- the same of a list of the code
abbrev pub first_of : List Specifier → Option Pos
first_of [] = None
first_of (q ∷ qs) = or_else (storage_at (specifier_of q)) (first_of qs)

abbrev pub place_or : Option Pos → Pos → Pos
place_or None p = p
place_or (Some q) p = q

abbrev pub storage_place : t.SpecifiersTree → Pos
storage_place (t.specifiers p qs) = place_or (first_storage qs) p

-- a parameter has no storage class but `register`
abbrev pub param_storage : Option Storage → t.SpecifiersTree → Result Bool Fault
param_storage None q = Ok false
param_storage (Some Register) q = Ok true
param_storage (Some _) q = Err (at StorageClass (storage_place q))

-- the parameter of the list `(void)`
abbrev pub is_nothing : Option Name → QTy → Bool → Bool
is_nothing name (qual void c v) is_register = not (is_some name) && (not is_register && (not c && not v))
is_nothing name _ is_register = false

-- a parameter has a size; a structure or union has at most four bytes
abbrev pub param_ty : TypesTy → Ty → Pos → Result (Unit {0}) Fault
param_ty types (tag n) p = structure_size types p (tag n) >>= (λ size. Ok tt)
param_ty types t p = size_at types p t >>= (λ n. Ok tt)

abbrev pub param_form : Bool → TypesTy → QTy → Pos → Result (Unit {0}) Fault
param_form true types t p = Ok tt
param_form false types t p = param_ty types (type_in t) p

abbrev pub param_class : Bool → Option Storage
param_class is_register = if is_register then Some Register else None

abbrev pub param_named : ScopeTy → Option Name → QTy → Bool → Pos → Result ScopeTy Fault
param_named s None t is_register p = Ok s
param_named s (Some n) t is_register p = declared s n t (param_class is_register) p >>= (λ x. Ok x.1)

-- the parameter, whose name is declared in the block of its prototype
abbrev pub formal_in : ScopeTy → Option Name → QTy → Bool → Bool → Pos → Result (FormalTy × ScopeTy) Fault
formal_in s name t is_register sole p = do
  u ← adjusted t
  form ← param_form (sole && is_nothing name u is_register) s.unit.types u p
  d ← param_named s name u is_register p
  Ok (record { name = name; ty = u; is_register = is_register; pos = p }, d)

abbrev pub own_bytes : TypesTy → Pos → Ty → Result ℕ Fault
own_bytes types p void = Ok 0
own_bytes types p t = size_at types p t

abbrev pub few_bytes : ℕ → Result ℕ Fault
few_bytes n = if nat_lt 250 n then Err (large ArgumentBytes 251) else Ok n

-- the bytes of the parameters with one more
abbrev pub more_bytes : TypesTy → ℕ → FormalTy → Result ℕ Fault
more_bytes types bytes x = own_bytes types x.pos (type_in x.ty) >>= (λ n. few_bytes (bytes + n))

abbrev pub is_void_type : QTy → Bool
is_void_type (qual void c v) = true
is_void_type _ = false

abbrev pub has_void : List FormalTy → Bool
has_void [] = false
has_void (x ∷ []) = is_void_type x.ty
has_void (x ∷ y ∷ xs) = false

-- the list `(void)` has no parameters
abbrev pub without_void : List FormalTy → List FormalTy
without_void xs = if has_void xs then [] else xs
