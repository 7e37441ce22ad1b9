-- A call passes as many bytes as the function takes.
use Rattle.std.proofs.Common.{◌≡◌, ℕ, zero, suc, ◌+◌, ◌-◌, ◌≤◌, ◌&&◌, not, Bool, true, false, Option, None, Some, List, [], ◌∷◌, ◌++◌, length, refl, sym, ap, subst, ◌∙◌, slice_get, arith}
use Rattle.std.specs.Prelude.{if◌then◌else◌, nat_lt, nat_le, option_and_then, unwrap_or}
use Rattle.std.proofs.lemmas.Bool.{ltb-false, le-ltb, leb-true, eqb-true, and_parts}
use Rattle.std.proofs.lemmas.Option.{slice_get-map}
use Rattle.c65_base.specs.declared.refusal.Size.TheVariants as sizes
use Rattle.c65_base.specs.Answers.{large}
use Rattle.c65_ints.specs.declared.types.IntType.{IntType}
use Rattle.c65_ints.specs.declared.types.IntType.TheVariants as ints
use Rattle.c65_ctype.specs.Trees.{Ty, void, int, pointer, array, tag, function, QTy, qual, type_in, QTys, end, more, Fn, TypesTy, LayoutTy}
use Rattle.c65_ints.specs.Ranges.{number_of}
use Rattle.c65_ctype.specs.Compatible.{same_int}
use Rattle.c65_ctype.specs.Sizes.{size_in}
use Rattle.c65_ctype.specs.Sizes as ctype
use Rattle.c65_ctype.specs.Tables.{layout_at}
use Rattle.c65_ctype.specs.Views.{types_of}
use Rattle.c65_csem.specs.declared.items.Parts.{Parts}
use Rattle.c65_csem.specs.Trees.{Typed, node, pack, Nodes, none, some, ObjectTy, UnitTy}
use Rattle.c65_csem.specs.Places.{is_scalar, is_small, plain_of, are_alike, alike}
use Rattle.c65_csem.specs.Typed.{AreGiven}
use Rattle.c65_csem.specs.Units.{AreParams, MatchParams}
use Rattle.c65_csem.specs.Views.{object_of, unit_of}
use Rattle.c65_genframe.specs.declared.home.Home.{Home}
use Rattle.c65_genframe.specs.declared.home.Home.TheVariants.{Bank, Soft}
use Rattle.c65_genframe.specs.declared.home.Arrival.{Arrival}
use Rattle.c65_genframe.specs.declared.home.Arrival.TheVariants.{Pushed}
use Rattle.c65_genframe.specs.Places.{Places, none_placed}
use Rattle.c65_genframe.specs.Places as placing
use Rattle.c65_genframe.specs.Arrivals.{slots}
use Rattle.c65_genframe.specs.Sizes.{object_in, slot_bytes}
use Rattle.c65_genframe.specs.Sizes as sizing
use Rattle.c65_genframe.specs.Marks.{lowest, all_marks}
use Rattle.c65_genframe.specs.Objects.{locals_of}
use Rattle.c65_genframe.specs.Frames.{Framed, has_prototype, is_variadic, takes_stack, register_param, home_at, arrival_at, arrival, is_kept, last_bytes, bytes_without, check_of, settled, passed_bytes, placed_in}
use Rattle.c65_genload.specs.Conversions.{size_of}
use Rattle.c65_genexpr.specs.Types.{kind_of, kind_in, bare}
use Rattle.c65_genexpr.specs.Arguments.{clamped, stays, passed_size}
use Rattle.c65_gen_law_lines.specs.Stack.{bytes_in, argument_bytes, passed}
use Rattle.c65_gen_law_lines.proofs.FrameLaws.{min_small, Room, all_room, answered}
use Rattle.c65_gen_law_lines.proofs.StackPieces.{passed_some, passed_few}
use Rattle.c65_gen_law_stack.specs.Calls.{pushed_bytes}
use Rattle.c65_gen_law_stack.specs.Parameters.{passed_type, IsArgument, AreArguments, IsTaken, AreTaken, CallsPassWhatIsTaken, CallsPassTheirParameters}
use Rattle.c65_gen_law_stack.specs.Parameters as arguments

-- ---- one parameter

scalar_slot : (types : TypesTy) (t : Ty) → is_scalar t ≡ true → sizing.passed_bytes types true t ≡ size_of (kind_of t)
scalar_slot types (int ints.SChar) h = refl
scalar_slot types (int ints.UChar) h = refl
scalar_slot types (int ints.Short) h = refl
scalar_slot types (int ints.UShort) h = refl
scalar_slot types (int ints.Int) h = refl
scalar_slot types (int ints.UInt) h = refl
scalar_slot types (int ints.Long) h = refl
scalar_slot types (int ints.ULong) h = refl
scalar_slot types (pointer q) h = refl
scalar_slot types void h = absurd cc
scalar_slot types (array q n) h = absurd cc
scalar_slot types (tag n) h = absurd cc
scalar_slot types (function g) h = absurd cc

-- the same where the type is only alike
abbrev of_number : ℕ → IntType
of_number zero = ints.SChar
of_number (suc zero) = ints.UChar
of_number (suc (suc zero)) = ints.Short
of_number (suc (suc (suc zero))) = ints.UShort
of_number (suc (suc (suc (suc zero)))) = ints.Int
of_number (suc (suc (suc (suc (suc zero))))) = ints.UInt
of_number (suc (suc (suc (suc (suc (suc zero)))))) = ints.Long
of_number (suc (suc (suc (suc (suc (suc (suc i))))))) = ints.ULong

back : (k : IntType) → of_number (number_of k) ≡ k
back ints.SChar = refl
back ints.UChar = refl
back ints.Short = refl
back ints.UShort = refl
back ints.Int = refl
back ints.UInt = refl
back ints.Long = refl
back ints.ULong = refl

pub same_kind : (j k : IntType) → same_int j k ≡ true → j ≡ k
same_kind j k h = sym (back j) ∙ ap of_number (eqb-true (number_of j) (number_of k) h) ∙ back k

alike_slot : (types : TypesTy) (t u : Ty) → alike t u ≡ true → is_scalar u ≡ true → sizing.passed_bytes types true t ≡ size_of (kind_of u)
alike_slot types (int j) (int k) h s = scalar_slot types (int j) refl ∙ ap size_of (same_kind j k h)
alike_slot types void (int k) h s = absurd cc
alike_slot types (pointer p) (int k) h s = absurd cc
alike_slot types (array p n) (int k) h s = absurd cc
alike_slot types (tag n) (int k) h s = absurd cc
alike_slot types (function g) (int k) h s = absurd cc
alike_slot types (pointer p) (pointer q) h s = refl
alike_slot types void (pointer q) h s = absurd cc
alike_slot types (int j) (pointer q) h s = absurd cc
alike_slot types (array p n) (pointer q) h s = absurd cc
alike_slot types (tag n) (pointer q) h s = absurd cc
alike_slot types (function g) (pointer q) h s = absurd cc
alike_slot types t void h s = absurd cc
alike_slot types t (array q n) h s = absurd cc
alike_slot types t (tag n) h s = absurd cc
alike_slot types t (function g) h s = absurd cc

passed_slot : (types : TypesTy) (p : Bool) (t u : Ty) → alike (passed_type p t) u ≡ true → is_scalar u ≡ true → sizing.passed_bytes types p t ≡ size_of (kind_of u)
passed_slot types true t u h s = alike_slot types t u h s
passed_slot types false (int ints.SChar) u h s = alike_slot types (int ints.Int) u h s
passed_slot types false (int ints.UChar) u h s = alike_slot types (int ints.Int) u h s
passed_slot types false (int ints.Short) u h s = alike_slot types (int ints.Int) u h s
passed_slot types false (int ints.UShort) u h s = alike_slot types (int ints.UInt) u h s
passed_slot types false (int ints.Int) u h s = alike_slot types (int ints.Int) u h s
passed_slot types false (int ints.UInt) u h s = alike_slot types (int ints.UInt) u h s
passed_slot types false (int ints.Long) u h s = alike_slot types (int ints.Long) u h s
passed_slot types false (int ints.ULong) u h s = alike_slot types (int ints.ULong) u h s
passed_slot types false (pointer q) u h s = alike_slot types (pointer q) u h s
passed_slot types false void u h s = alike_slot types void u h s
passed_slot types false (array q n) u h s = alike_slot types (array q n) u h s
passed_slot types false (tag n) u h s = alike_slot types (tag n) u h s
passed_slot types false (function g) u h s = alike_slot types (function g) u h s

-- the bytes of a parameter
abbrev slot : Parts → Bool → ℕ → ℕ
slot parts p i = slot_bytes (types_of parts.types) p (object_in parts i)

-- a scalar argument has the bytes of its type, whatever its tree is
scalar_type : (types : TypesTy) (t : Ty) → is_scalar t ≡ true → clamped (sizing.bytes_or types t 0) ≡ size_of (kind_of t)
scalar_type types (int ints.SChar) h = refl
scalar_type types (int ints.UChar) h = refl
scalar_type types (int ints.Short) h = refl
scalar_type types (int ints.UShort) h = refl
scalar_type types (int ints.Int) h = refl
scalar_type types (int ints.UInt) h = refl
scalar_type types (int ints.Long) h = refl
scalar_type types (int ints.ULong) h = refl
scalar_type types (pointer q) h = refl
scalar_type types void h = absurd cc
scalar_type types (array q n) h = absurd cc
scalar_type types (tag n) h = absurd cc
scalar_type types (function g) h = absurd cc

pub scalar_size : (f : Framed) (e : Typed) → is_scalar (bare e) ≡ true → passed_size f e ≡ size_of (kind_in e)
scalar_size f (node t (pack e)) h = scalar_type (types_of f.parts.types) (type_in t) h
scalar_size f (node t _) h = refl

-- and a structure or union of at most four bytes has its own
small_limit : (b : Bool) (n other : ℕ) → nat_lt 65535 n ≡ b → n ≤ 4 → unwrap_or (if b then None else Some n) other ≡ n
small_limit true n other h few = absurd (let low : nat_lt 65535 n ≡ false = le-ltb 65535 n (omega (arith, few)) in cc)
small_limit false n other h few = refl

small_layout : (o : Option LayoutTy) (other : ℕ) → 1 ≤ size_in o → size_in o ≤ 4 → unwrap_or (option_and_then (λ l. sizing.limited l.size) o) other ≡ size_in o
small_layout None other least few = absurd (omega (arith, least))
small_layout (Some l) other least few = small_limit (nat_lt 65535 l.size) l.size other refl few

clamped_small : (n : ℕ) → 1 ≤ n → n ≤ 4 → clamped n ≡ n
clamped_small zero least few = absurd (omega (arith, least))
clamped_small (suc zero) least few = refl
clamped_small (suc (suc zero)) least few = refl
clamped_small (suc (suc (suc zero))) least few = refl
clamped_small (suc (suc (suc (suc zero)))) least few = refl
clamped_small (suc (suc (suc (suc (suc n))))) least few = absurd (omega (arith, few))

record Small (types : TypesTy) (t : Ty) : Type 0 where
  least : 1 ≤ ctype.size_of types t
  few : ctype.size_of types t ≤ 4
  bytes : (other : ℕ) → sizing.bytes_or types t other ≡ ctype.size_of types t

small_bounds : (n : ℕ) → (nat_le 1 n && nat_le n 4) ≡ true → (1 ≤ n) × (n ≤ 4)
small_bounds n h = let parts = and_parts (nat_le 1 n) (nat_le n 4) h in (leb-true 1 n parts.0, leb-true n 4 parts.1)

small_tag : (types : TypesTy) (m n : ℕ) → 1 ≤ ctype.size_of types (tag n) → ctype.size_of types (tag n) ≤ 4 → ctype.size_of types (tag m) ≡ ctype.size_of types (tag n) → Small types (tag m)
small_tag types m n least few same = record {
  least = omega (arith, least, same);
  few = omega (arith, few, same);
  bytes = λ other. small_layout (layout_at types m) other (omega (arith, least, same)) (omega (arith, few, same));
}

packed_size : (f : Framed) (q : QTy) (e : Typed) → Small (types_of f.parts.types) (type_in q) → passed_size f (node q (pack e)) ≡ ctype.size_of (types_of f.parts.types) (type_in q)
packed_size f q e s = ap clamped (s.bytes 0) ∙ clamped_small (ctype.size_of (types_of f.parts.types) (type_in q)) s.least s.few

tag_size : (types : TypesTy) (p : Bool) (m : ℕ) → ctype.size_of types (passed_type p (tag m)) ≡ ctype.size_of types (tag m)
tag_size types true m = refl
tag_size types false m = refl

tag_bytes : (types : TypesTy) (p : Bool) (m : ℕ) → sizing.passed_bytes types p (tag m) ≡ sizing.bytes_or types (tag m) 65536
tag_bytes types true m = refl
tag_bytes types false m = refl

packed_slot : (types : TypesTy) (p : Bool) (t u : Ty) → is_small types u ≡ true → alike (passed_type p t) u ≡ true → ctype.size_of types (passed_type p t) ≡ ctype.size_of types u → (sizing.passed_bytes types p t ≡ ctype.size_of types u) × Small types u
packed_slot types p (tag m) (tag n) small same size =
    let bounds = small_bounds (ctype.size_of types (tag n)) small in
    let own_size : ctype.size_of types (tag m) ≡ ctype.size_of types (tag n) = sym (tag_size types p m) ∙ size in
    let own : Small types (tag m) = small_tag types m n bounds.0 bounds.1 own_size in
    (tag_bytes types p m ∙ (own.bytes 65536 ∙ own_size), small_tag types n n bounds.0 bounds.1 refl)
packed_slot types true void (tag n) small same size = absurd cc
packed_slot types false void (tag n) small same size = absurd cc
packed_slot types true (int k) (tag n) small same size = absurd cc
packed_slot types false (int k) (tag n) small same size = absurd cc
packed_slot types true (pointer q) (tag n) small same size = absurd cc
packed_slot types false (pointer q) (tag n) small same size = absurd cc
packed_slot types true (array q m) (tag n) small same size = absurd cc
packed_slot types false (array q m) (tag n) small same size = absurd cc
packed_slot types true (function g) (tag n) small same size = absurd cc
packed_slot types false (function g) (tag n) small same size = absurd cc
packed_slot types p t void small same size = absurd cc
packed_slot types p t (int k) small same size = absurd cc
packed_slot types p t (pointer q) small same size = absurd cc
packed_slot types p t (array q m) small same size = absurd cc
packed_slot types p t (function g) small same size = absurd cc

taken_slot : (f : Framed) (p : Bool) (t : Ty) (e : Typed) → IsTaken (unit_of f.parts) (passed_type p t) e → sizing.passed_bytes (types_of f.parts.types) p t ≡ passed_size f e
taken_slot f p t e (arguments.scalar scalar same) = passed_slot (types_of f.parts.types) p t (bare e) same scalar ∙ sym (scalar_size f e scalar)
taken_slot f p t (node q (pack e)) (arguments.packed small same size) =
    let both = packed_slot (types_of f.parts.types) p t (type_in q) small same size in
    both.0 ∙ sym (packed_size f q e both.1)

arg_slot : (parts : Parts) (h : Framed) (p : Bool) (e : Typed) (i : ℕ) (o : ObjectTy) → h.parts ≡ parts → slice_get (unit_of parts).objects i ≡ Some o → IsTaken (unit_of parts) (passed_type p (type_in o.ty)) e → slot parts p i ≡ passed_size h e
arg_slot parts h p e i o own there taken =
    let found : object_in parts i ≡ Some o = sym (slice_get-map object_of parts.objects.items i) ∙ there in
    let here : IsTaken (unit_of h.parts) (passed_type p (type_in o.ty)) e = subst (λ (x : Parts). IsTaken (unit_of x) (passed_type p (type_in o.ty)) e) (sym own) taken in
    ap (slot_bytes (types_of parts.types) p) found ∙ (ap (λ (x : Parts). sizing.passed_bytes (types_of x.types) p (type_in o.ty)) (sym own) ∙ taken_slot h p (type_in o.ty) e here)

-- ---- sums

abbrev arg_sum : Framed → Nodes → ℕ
arg_sum f none = 0
arg_sum f (some e es) = passed_size f e + arg_sum f es

abbrev slot_sum : Parts → Bool → List ℕ → ℕ
slot_sum parts p [] = 0
slot_sum parts p (i ∷ is) = slot parts p i + slot_sum parts p is

abbrev last_arg : Framed → Nodes → ℕ
last_arg f none = 0
last_arg f (some e none) = passed_size f e
last_arg f (some e (some g es)) = last_arg f (some g es)

abbrev last_of : List ℕ → Option ℕ
last_of [] = None
last_of (i ∷ []) = Some i
last_of (i ∷ j ∷ js) = last_of (j ∷ js)

last_get : (ps : List ℕ) → slice_get ps (length ps - 1) ≡ last_of ps
last_get [] = refl
last_get (i ∷ []) = refl
last_get (i ∷ j ∷ js) =
    let e : length (i ∷ j ∷ js) - 1 ≡ suc (length (j ∷ js) - 1) = omega arith in
    ap (slice_get (i ∷ j ∷ js)) e ∙ last_get (j ∷ js)

-- arguments and parameters have the same bytes
record Same (parts : Parts) (f : Framed) (p : Bool) (es : Nodes) (ps : List ℕ) : Type 0 where
  sums : arg_sum f es ≡ slot_sum parts p ps
  last : last_bytes parts p (last_of ps) ≡ last_arg f es
  size : (i : ℕ) → last_of ps ≡ Some i → (1 ≤ slot parts p i) × (slot parts p i ≤ 4)

same : (parts : Parts) (f : Framed) (p : Bool) (es : Nodes) (ps : List ℕ) → f.parts ≡ parts → AreTaken (unit_of parts) p es ps → Same parts f p es ps
same parts f p none [] own h = record { sums = refl; last = refl; size = λ i e. absurd cc }
same parts f p none (i ∷ is) own h = absurd h
same parts f p (some e es) [] own h = absurd h
same parts f p (some e none) (i ∷ []) own h =
    let here : slot parts p i ≡ passed_size f e = arg_slot parts f p e i h.0 own h.1 h.2 in
    record {
      sums = omega (arith, here);
      last = here;
      size = λ j g. let k : i ≡ j = cc in let there : slot parts p j ≡ passed_size f e = ap (slot parts p) (sym k) ∙ here in (omega (arith, there, passed_some f e), omega (arith, there, passed_few f e));
    }
same parts f p (some e none) (i ∷ j ∷ js) own h = absurd h.3
same parts f p (some e (some g es)) (i ∷ []) own h = absurd h.3
same parts f p (some e (some g es)) (i ∷ j ∷ js) own h =
    let here : slot parts p i ≡ passed_size f e = arg_slot parts f p e i h.0 own h.1 h.2 in
    let rest : Same parts f p (some g es) (j ∷ js) = same parts f p (some g es) (j ∷ js) own h.3 in
    record { sums = omega (arith, here, rest.sums); last = rest.last; size = rest.size }

bytes_append : (xs ys : List ℕ) → bytes_in (xs ++ ys) ≡ bytes_in xs + bytes_in ys
bytes_append [] ys = omega arith
bytes_append (x ∷ xs) ys = omega (arith, bytes_append xs ys)

none_stays : (es : Nodes) → stays false es ≡ false
none_stays none = refl
none_stays (some e es) = refl

all_passed : (f : Framed) (es : Nodes) → bytes_in (passed f false es) ≡ arg_sum f es
all_passed f none = refl
all_passed f (some e es) =
    let size : ℕ = passed_size f e in
    let own : bytes_in (argument_bytes (stays false es) size) ≡ size + 0 = ap (λ (b : Bool). bytes_in (argument_bytes b size)) (none_stays es) in
    omega (arith, bytes_append (passed f false es) (argument_bytes (stays false es) size), own, all_passed f es)

but_last : (f : Framed) (es : Nodes) → bytes_in (passed f true es) + last_arg f es ≡ arg_sum f es
but_last f none = refl
but_last f (some e none) = omega arith
but_last f (some e (some g es)) = omega (arith, bytes_append (passed f true (some g es)) (passed_size f e ∷ []), but_last f (some g es))

slots_are : (parts : Parts) (p : Bool) (is : List ℕ) (total : ℕ) → slots parts p is total ≤ 1024 → slots parts p is total ≡ total + slot_sum parts p is
slots_are parts p [] total h = omega arith
slots_are parts p (i ∷ is) total h =
    let rest : slots parts p is (placing.more total (slot parts p i)) ≡ placing.more total (slot parts p i) + slot_sum parts p is = slots_are parts p is (placing.more total (slot parts p i)) h in
    omega (arith, rest, min_small (total + slot parts p i) (omega (arith, rest, h)))

-- ---- frames

pushed_size : (n : ℕ) → 1 ≤ n → n ≤ 4 → pushed_bytes (Pushed n) ≡ n
pushed_size zero least few = absurd (omega (arith, least))
pushed_size (suc zero) least few = refl
pushed_size (suc (suc zero)) least few = refl
pushed_size (suc (suc (suc zero))) least few = refl
pushed_size (suc (suc (suc (suc zero)))) least few = refl
pushed_size (suc (suc (suc (suc (suc n))))) least few = absurd (omega (arith, few))

arrived_at : (parts : Parts) (p : Bool) (i total bytes : ℕ) (home : Option Home) → 1 ≤ slot parts p i → slot parts p i ≤ 4 → bytes + slot parts p i ≡ total
    → bytes + pushed_bytes (arrival_at parts p i home) ≡ bytes_without (is_kept (arrival_at parts p i home)) total (slot parts p i)
arrived_at parts p i total bytes (Some (Bank b)) least few sum = omega (arith, sum)
arrived_at parts p i total bytes (Some (Soft d)) least few sum = omega (arith, sum, pushed_size (slot parts p i) least few)
arrived_at parts p i total bytes None least few sum = omega (arith, sum, pushed_size (slot parts p i) least few)

arrives : (parts : Parts) (p : Bool) (low : ℕ) (homes : List (Option Home)) (o : Option ℕ) (total bytes : ℕ) → ((i : ℕ) → o ≡ Some i → (1 ≤ slot parts p i) × (slot parts p i ≤ 4)) → bytes + last_bytes parts p o ≡ total
    → bytes + pushed_bytes (arrival parts p low homes o) ≡ bytes_without (is_kept (arrival parts p low homes o)) total (last_bytes parts p o)
arrives parts p low homes None total bytes sizes sum = sum
arrives parts p low homes (Some i) total bytes sizes sum = let size = sizes i refl in arrived_at parts p i total bytes (home_at low homes i) size.0 size.1 sum

-- whether the last one is in registers
last_in : (parts : Parts) (f : Framed) (p cdecl : Bool) (es : Nodes) (ps : List ℕ) → Same parts f p es ps → bytes_in (passed f (not cdecl) es) + last_bytes parts p (if cdecl then None else slice_get ps (length ps - 1)) ≡ slot_sum parts p ps
last_in parts f p true es ps s = omega (arith, all_passed f es, s.sums)
last_in parts f p false es ps s = let here : last_bytes parts p (slice_get ps (length ps - 1)) ≡ last_arg f es = ap (last_bytes parts p) (last_get ps) ∙ s.last in omega (arith, here, but_last f es, s.sums)

sizes_in : (parts : Parts) (f : Framed) (p cdecl : Bool) (es : Nodes) (ps : List ℕ) → Same parts f p es ps → (i : ℕ) → (if cdecl then None else slice_get ps (length ps - 1)) ≡ Some i → (1 ≤ slot parts p i) × (slot parts p i ≤ 4)
sizes_in parts f p true es ps s i e = absurd cc
sizes_in parts f p false es ps s i e = s.size i (sym (last_get ps) ∙ e)

pub calls_pass_what_is_taken : CallsPassWhatIsTaken
calls_pass_what_is_taken parts modes g f h es framed own given =
    let prototype : Bool = has_prototype g.ty in
    let cdecl : Bool = takes_stack g.ty in
    let p : Places = placed_in parts modes g in
    let low : ℕ = lowest (locals_of g) g.params in
    let passes : ℕ = passed_bytes parts g in
    let last : Arrival = arrival parts prototype low p.homes (register_param g) in
    let answer = answered (nat_lt 1024 p.total) (large sizes.Frame p.total) (settled parts (check_of parts modes g) g low passes p) f framed in
    let few : p.total ≤ 1024 = ltb-false 1024 p.total answer.0 in
    let room : Room (none_placed (is_variadic g.ty) passes) p = all_room parts modes low (all_marks (locals_of g) g.params) (none_placed (is_variadic g.ty) passes) few in
    let s : Same parts h prototype es g.params = same parts h prototype es g.params own given in
    let bytes : ℕ = bytes_in (passed h (not cdecl) es) in
    let sum : bytes + last_bytes parts prototype (register_param g) ≡ slot_sum parts prototype g.params = last_in parts h prototype cdecl es g.params s in
    let sized : passes ≡ 0 + slot_sum parts prototype g.params = slots_are parts prototype g.params 0 room.few in
    let all : bytes + pushed_bytes last ≡ bytes_without (is_kept last) passes (last_bytes parts prototype (register_param g)) = arrives parts prototype low p.homes (register_param g) passes bytes (λ i e. sizes_in parts h prototype cdecl es g.params s i e) (omega (arith, sum, sized)) in
    let arrival_is : pushed_bytes last ≡ pushed_bytes f.last = ap (λ z. pushed_bytes z.last) answer.1 in
    let stacked_is : bytes_without (is_kept last) passes (last_bytes parts prototype (register_param g)) ≡ f.stacked = ap (λ z. z.stacked) answer.1 in
    omega (arith, all, arrival_is, stacked_is)

-- ---- prototypes

pub plain_type : (q : QTy) → type_in (plain_of q) ≡ type_in q
plain_type (qual t c v) = refl

pub alike_in : (p q : QTy) → are_alike p q ≡ alike (type_in p) (type_in q)
alike_in (qual t c v) (qual u d w) = refl

pub argument_taken : (u : UnitTy) (t : Ty) (e : Typed) → IsArgument u e → alike t (bare e) ≡ true → ctype.size_of u.types t ≡ ctype.size_of u.types (bare e) → IsTaken u t e
argument_taken u t e (arguments.value scalar) same size = arguments.scalar scalar same
argument_taken u t (node q (pack e)) (arguments.bytes small) same size = arguments.packed small same size

pub given_taken : (u : UnitTy) (qs : QTys) (es : Nodes) (ps : List ℕ) → AreArguments u es → AreGiven u qs false es → AreParams u qs ps → AreTaken u true es ps
given_taken u end none [] a h p = tt
given_taken u end none (i ∷ is) a h p = absurd p
given_taken u end (some e es) ps a h p = absurd h
given_taken u (more q qs) none ps a h p = absurd h
given_taken u (more q qs) (some e es) [] a h p = absurd p
given_taken u (more q qs) (some e es) (i ∷ is) a h p =
    let types : type_in q ≡ bare e = sym (plain_type q) ∙ ap type_in (sym h.0) in
    let likes : alike (type_in p.0.ty) (bare e) ≡ true = ap (alike (type_in p.0.ty)) (sym types) ∙ (sym (alike_in p.0.ty q) ∙ p.2) in
    let size : ctype.size_of u.types (type_in p.0.ty) ≡ ctype.size_of u.types (bare e) = p.3 ∙ ap (ctype.size_of u.types) types in
    (p.0, p.1, argument_taken u (type_in p.0.ty) e a.0 likes size, given_taken u qs es is a.1 h.1 p.4)

pub calls_pass_their_parameters : CallsPassTheirParameters
calls_pass_their_parameters parts modes g body f h q qs cdecl es well ty framed own each given =
    let match : AreParams (unit_of parts) qs g.params = subst (λ (t : Fn). MatchParams (unit_of parts) t g.params) ty well.prototype in
    let taken : AreTaken (unit_of parts) (has_prototype g.ty) es g.params = subst (λ (b : Bool). AreTaken (unit_of parts) b es g.params) (sym (ap has_prototype ty)) (given_taken (unit_of parts) qs es g.params each given match) in
    let way : takes_stack g.ty ≡ cdecl = ap takes_stack ty in
    ap (λ (b : Bool). bytes_in (passed h (not b) es) + pushed_bytes f.last) (sym way) ∙ calls_pass_what_is_taken parts modes g f h es framed own taken
