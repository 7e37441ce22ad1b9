-- Arguments of the types of parameters have their sizes.
use Rattle.std.proofs.Common.{◌≡◌, ℕ, zero, suc, ◌≤◌, Bool, true, false, Option, None, Some, [], ◌∷◌, refl, sym, ap, subst, ◌∙◌, slice_get, arith}
use Rattle.std.specs.Prelude.{if◌then◌else◌, nat_le, ◌&&◌, option_and_then, unwrap_or}
use Rattle.std.proofs.lemmas.Bool.{le-ltb, leb-true, and_parts}
use Rattle.std.proofs.lemmas.Option.{slice_get-map}
use Rattle.c65_ints.specs.declared.types.IntType.{IntType}
use Rattle.c65_ints.specs.declared.types.IntType.TheVariants as ints
use Rattle.c65_ctype.specs.Trees.{Ty, void, int, pointer, array, tag, function, QTy, type_in, TypesTy, LayoutTy}
use Rattle.c65_ctype.specs.Sizes as ctype
use Rattle.c65_ctype.specs.Tables.{layout_at}
use Rattle.c65_ctype.specs.Views.{types_of}
use Rattle.c65_csem.specs.declared.items.Parts.{Parts}
use Rattle.c65_csem.specs.Trees.{Typed, node, pack, none, some, ObjectTy}
use Rattle.c65_csem.specs.Places.{is_scalar, is_small, promoted_of, alike}
use Rattle.c65_csem.specs.Views.{object_of, unit_of}
use Rattle.c65_meaning.specs.Store.{size_in}
use Rattle.c65_meaning.specs.Shapes.{shape_of, object_shape}
use Rattle.c65_genframe.specs.Sizes.{object_in, bytes_or, passed_bytes, slot_bytes, limited}
use Rattle.c65_genframe.specs.Frames.{Framed}
use Rattle.c65_genload.specs.Conversions.{size_of}
use Rattle.c65_genexpr.specs.Types.{kind_of, bare}
use Rattle.c65_genexpr.specs.Arguments.{clamped, passed_size}
use Rattle.c65_gen_law_stack.specs.Parameters.{passed_type, IsTaken}
use Rattle.c65_gen_law_stack.specs.Parameters as parameters
use Rattle.c65_gen_law_stack.proofs.ParameterLaws.{same_kind, scalar_size}
use Rattle.c65_agree_enter.specs.Params.{shape_in}
use Rattle.c65_agree_slots.specs.Taken.{TakenArgumentsHaveSizes}

-- ---- types that are alike

pub like_int : (t : Ty) (k : IntType) → alike t (int k) ≡ true → t ≡ int k
like_int (int j) k h = ap int (same_kind j k h)
like_int void k h = absurd cc
like_int (pointer q) k h = absurd cc
like_int (array q n) k h = absurd cc
like_int (tag n) k h = absurd cc
like_int (function f) k h = absurd cc

pub like_pointer : (t : Ty) (q : QTy) → alike t (pointer q) ≡ true → (p : QTy) × (t ≡ pointer p)
like_pointer (pointer p) q h = (p, refl)
like_pointer void q h = absurd cc
like_pointer (int j) q h = absurd cc
like_pointer (array p n) q h = absurd cc
like_pointer (tag n) q h = absurd cc
like_pointer (function f) q h = absurd cc

pub like_tag : (t : Ty) (n : ℕ) → alike t (tag n) ≡ true → (m : ℕ) × (t ≡ tag m)
like_tag (tag m) n h = (m, refl)
like_tag void n h = absurd cc
like_tag (int j) n h = absurd cc
like_tag (pointer q) n h = absurd cc
like_tag (array q k) n h = absurd cc
like_tag (function f) n h = absurd cc

-- ---- one parameter

-- it is passed in so many bytes, and needs no more
abbrev Fits : TypesTy → Bool → Ty → ℕ → Type 0
Fits types prototype t n = (passed_bytes types prototype t ≡ n) × (size_in (shape_of types t) ≤ n)

-- as its own type
abbrev pub FitsOwn : TypesTy → Ty → ℕ → Type 0
FitsOwn types t n = (bytes_or types t 65536 ≡ n) × (size_in (shape_of types t) ≤ n)

pub int_fits : (types : TypesTy) (k : IntType) → FitsOwn types (int k) (size_of k)
int_fits types ints.SChar = (refl, omega arith)
int_fits types ints.UChar = (refl, omega arith)
int_fits types ints.Short = (refl, omega arith)
int_fits types ints.UShort = (refl, omega arith)
int_fits types ints.Int = (refl, omega arith)
int_fits types ints.UInt = (refl, omega arith)
int_fits types ints.Long = (refl, omega arith)
int_fits types ints.ULong = (refl, omega arith)

promoted_fits : (types : TypesTy) (k : IntType) → Fits types false (int k) (size_of (promoted_of k))
promoted_fits types ints.SChar = (refl, omega arith)
promoted_fits types ints.UChar = (refl, omega arith)
promoted_fits types ints.Short = (refl, omega arith)
promoted_fits types ints.UShort = (refl, omega arith)
promoted_fits types ints.Int = (refl, omega arith)
promoted_fits types ints.UInt = (refl, omega arith)
promoted_fits types ints.Long = (refl, omega arith)
promoted_fits types ints.ULong = (refl, omega arith)

own_scalar : (types : TypesTy) (t b : Ty) → is_scalar b ≡ true → alike t b ≡ true → FitsOwn types t (size_of (kind_of b))
own_scalar types t (int k) s a = subst (λ (x : Ty). FitsOwn types x (size_of k)) (sym (like_int t k a)) (int_fits types k)
own_scalar types t (pointer q) s a = let p = like_pointer t q a in subst (λ (x : Ty). FitsOwn types x 2) (sym p.1) (refl, omega arith)
own_scalar types t void s a = absurd cc
own_scalar types t (array q n) s a = absurd cc
own_scalar types t (tag n) s a = absurd cc
own_scalar types t (function f) s a = absurd cc

promoted_scalar : (types : TypesTy) (k : IntType) (b : Ty) → alike (int (promoted_of k)) b ≡ true → Fits types false (int k) (size_of (kind_of b))
promoted_scalar types k (int j) a = subst (λ (x : IntType). Fits types false (int k) (size_of x)) (same_kind (promoted_of k) j a) (promoted_fits types k)
promoted_scalar types k void a = absurd cc
promoted_scalar types k (pointer q) a = absurd cc
promoted_scalar types k (array q n) a = absurd cc
promoted_scalar types k (tag n) a = absurd cc
promoted_scalar types k (function f) a = absurd cc

scalar_fits : (types : TypesTy) (prototype : Bool) (t b : Ty) → is_scalar b ≡ true → alike (passed_type prototype t) b ≡ true → Fits types prototype t (size_of (kind_of b))
scalar_fits types true t b s a = own_scalar types t b s a
scalar_fits types false (int k) b s a = promoted_scalar types k b a
scalar_fits types false void b s a = own_scalar types void b s a
scalar_fits types false (pointer q) b s a = own_scalar types (pointer q) b s a
scalar_fits types false (array q n) b s a = own_scalar types (array q n) b s a
scalar_fits types false (tag n) b s a = own_scalar types (tag n) b s a
scalar_fits types false (function f) b s a = own_scalar types (function f) b s a

-- ---- a structure or union of at most four bytes

few_limited : (n other : ℕ) → n ≤ 4 → unwrap_or (limited n) other ≡ n
few_limited n other few = ap (λ b. unwrap_or (if b then None else Some n) other) (le-ltb 65535 n (omega (arith, few)))

layout_bytes : (o : Option LayoutTy) (other : ℕ) → 1 ≤ ctype.size_in o → ctype.size_in o ≤ 4 → unwrap_or (option_and_then (λ l. limited l.size) o) other ≡ ctype.size_in o
layout_bytes None other least few = absurd (omega (arith, least))
layout_bytes (Some l) other least few = few_limited l.size other few

clamped_few : (n : ℕ) → 1 ≤ n → n ≤ 4 → clamped n ≡ n
clamped_few zero least few = absurd (omega (arith, least))
clamped_few (suc zero) least few = refl
clamped_few (suc (suc zero)) least few = refl
clamped_few (suc (suc (suc zero))) least few = refl
clamped_few (suc (suc (suc (suc zero)))) least few = refl
clamped_few (suc (suc (suc (suc (suc n))))) least few = absurd (omega (arith, few))

pub small_bounds : (n : ℕ) → (nat_le 1 n && nat_le n 4) ≡ true → (1 ≤ n) × (n ≤ 4)
small_bounds n h = let parts = and_parts (nat_le 1 n) (nat_le n 4) h in (leb-true 1 n parts.0, leb-true n 4 parts.1)

pub small_size : (types : TypesTy) (u : Ty) → is_small types u ≡ true → bytes_or types u 0 ≡ ctype.size_of types u
small_size types (tag n) small = let bounds = small_bounds (ctype.size_of types (tag n)) small in layout_bytes (layout_at types n) 0 bounds.0 bounds.1
small_size types void small = absurd cc
small_size types (int k) small = absurd cc
small_size types (pointer q) small = absurd cc
small_size types (array q n) small = absurd cc
small_size types (function f) small = absurd cc

pub small_bytes : (types : TypesTy) (u : Ty) → is_small types u ≡ true → clamped (bytes_or types u 0) ≡ ctype.size_of types u
small_bytes types (tag n) small =
    let bounds = small_bounds (ctype.size_of types (tag n)) small in
    ap clamped (small_size types (tag n) small) ∙ clamped_few (ctype.size_of types (tag n)) bounds.0 bounds.1
small_bytes types void small = absurd cc
small_bytes types (int k) small = absurd cc
small_bytes types (pointer q) small = absurd cc
small_bytes types (array q n) small = absurd cc
small_bytes types (function f) small = absurd cc

own_small : (types : TypesTy) (t u : Ty) → is_small types u ≡ true → alike t u ≡ true → ctype.size_of types t ≡ ctype.size_of types u → FitsOwn types t (clamped (bytes_or types u 0))
own_small types t (tag n) small a size =
    let bounds = small_bounds (ctype.size_of types (tag n)) small in
    let m = like_tag t n a in
    let same : ctype.size_of types (tag m.0) ≡ ctype.size_of types (tag n) = ap (ctype.size_of types) (sym m.1) ∙ size in
    let there : bytes_or types (tag m.0) 65536 ≡ ctype.size_of types (tag m.0) = layout_bytes (layout_at types m.0) 65536 (omega (arith, same, bounds.0)) (omega (arith, same, bounds.1)) in
    let here : clamped (bytes_or types (tag n) 0) ≡ ctype.size_of types (tag n) = small_bytes types (tag n) small in
    subst (λ (x : Ty). FitsOwn types x (clamped (bytes_or types (tag n) 0))) (sym m.1) (there ∙ (same ∙ sym here), omega (arith, same, here))
own_small types t void small a size = absurd cc
own_small types t (int k) small a size = absurd cc
own_small types t (pointer q) small a size = absurd cc
own_small types t (array q n) small a size = absurd cc
own_small types t (function f) small a size = absurd cc

no_small_int : {A : Type 0} (types : TypesTy) (k : IntType) (u : Ty) → is_small types u ≡ true → alike (int k) u ≡ true → A
no_small_int types k (int j) small a = absurd cc
no_small_int types k void small a = absurd cc
no_small_int types k (pointer q) small a = absurd cc
no_small_int types k (array q n) small a = absurd cc
no_small_int types k (tag n) small a = absurd cc
no_small_int types k (function f) small a = absurd cc

small_fits : (types : TypesTy) (prototype : Bool) (t u : Ty) → is_small types u ≡ true → alike (passed_type prototype t) u ≡ true → ctype.size_of types (passed_type prototype t) ≡ ctype.size_of types u → Fits types prototype t (clamped (bytes_or types u 0))
small_fits types true t u small a size = own_small types t u small a size
small_fits types false (int k) u small a size = no_small_int types (promoted_of k) u small a
small_fits types false void u small a size = own_small types void u small a size
small_fits types false (pointer q) u small a size = own_small types (pointer q) u small a size
small_fits types false (array q n) u small a size = own_small types (array q n) u small a size
small_fits types false (tag n) u small a size = own_small types (tag n) u small a size
small_fits types false (function f) u small a size = own_small types (function f) u small a size

-- ---- arguments

taken_fits : (f : Framed) (prototype : Bool) (t : Ty) (e : Typed) → IsTaken (unit_of f.parts) (passed_type prototype t) e → Fits (types_of f.parts.types) prototype t (passed_size f e)
taken_fits f prototype t e (parameters.scalar scalar a) = subst (λ (n : ℕ). Fits (types_of f.parts.types) prototype t n) (sym (scalar_size f e scalar)) (scalar_fits (types_of f.parts.types) prototype t (bare e) scalar a)
taken_fits f prototype t (node q (pack e)) (parameters.packed small a size) = small_fits (types_of f.parts.types) prototype t (type_in q) small a size

pub object_fits : (parts : Parts) (f : Framed) (prototype : Bool) (i : ℕ) (o : ObjectTy) (e : Typed) → f.parts ≡ parts → slice_get (unit_of parts).objects i ≡ Some o → IsTaken (unit_of parts) (passed_type prototype (type_in o.ty)) e
    → (slot_bytes (types_of parts.types) prototype (object_in parts i) ≡ passed_size f e) × (size_in (shape_in (unit_of parts) i) ≤ passed_size f e)
object_fits parts f prototype i o e own there taken =
    let here : IsTaken (unit_of f.parts) (passed_type prototype (type_in o.ty)) e = subst (λ (x : Parts). IsTaken (unit_of x) (passed_type prototype (type_in o.ty)) e) (sym own) taken in
    let fits : Fits (types_of parts.types) prototype (type_in o.ty) (passed_size f e) = subst (λ (x : Parts). Fits (types_of x.types) prototype (type_in o.ty) (passed_size f e)) own (taken_fits f prototype (type_in o.ty) e here) in
    let found : object_in parts i ≡ Some o = sym (slice_get-map object_of parts.objects.items i) ∙ there in
    let shape : size_in (shape_in (unit_of parts) i) ≡ size_in (shape_of (types_of parts.types) (type_in o.ty)) = ap (λ (x : Option ObjectTy). size_in (object_shape (types_of parts.types) x)) there in
    (ap (slot_bytes (types_of parts.types) prototype) found ∙ fits.0, omega (arith, shape, fits.1))

pub taken_arguments_have_sizes : TakenArgumentsHaveSizes
taken_arguments_have_sizes parts prototype f [] none own taken = tt
taken_arguments_have_sizes parts prototype f [] (some e es) own taken = absurd taken
taken_arguments_have_sizes parts prototype f (i ∷ is) none own taken = absurd taken
taken_arguments_have_sizes parts prototype f (i ∷ is) (some e es) own taken =
    let one = object_fits parts f prototype i taken.0 e own taken.1 taken.2 in
    (one.0, one.1, taken_arguments_have_sizes parts prototype f is es own taken.3)

-- ---- an argument is passed in as many bytes as its type has

scalar_within : (types : TypesTy) (t : Ty) → is_scalar t ≡ true → size_of (kind_of t) ≤ ctype.size_of types t
scalar_within types (int k) h = let same : ctype.size_of types (int k) ≡ size_of k = (int_fits types k).0 in omega (arith, same)
scalar_within types (pointer q) h = omega arith
scalar_within types void h = absurd cc
scalar_within types (array q n) h = absurd cc
scalar_within types (tag n) h = absurd cc
scalar_within types (function f) h = absurd cc

pub taken_within : (f : Framed) (t : Ty) (e : Typed) → IsTaken (unit_of f.parts) t e → passed_size f e ≤ ctype.size_of (types_of f.parts.types) (bare e)
taken_within f t e (parameters.scalar scalar a) = omega (arith, scalar_size f e scalar, scalar_within (types_of f.parts.types) (bare e) scalar)
taken_within f t (node q (pack e)) (parameters.packed small a size) = omega (arith, small_bytes (types_of f.parts.types) (type_in q) small)
