-- The arguments of a call that is accepted are of the types of the parameters.
use Rattle.std.proofs.Common.{◌≡◌, ℕ, zero, suc, ◌≤◌, Bool, true, false, Option, None, Some, List, [], ◌∷◌, refl, sym, ap, subst, ◌∙◌, slice_get, arith}
use Rattle.std.specs.Prelude.{if◌then◌else◌, ◌&&◌, ◌==◌, ◌^◌, option_and_then, All}
use Rattle.std.proofs.lemmas.Bool.{eq-eqb, eqb-true, and_parts, or_left, or_right}
use Rattle.std.proofs.lemmas.List.Elements.{All-head, All-tail}
use Rattle.c65_ints.specs.declared.types.IntType.{IntType}
use Rattle.c65_ints.specs.Ranges.{number_of}
use Rattle.c65_ctype.specs.Trees.{Ty, void, int, pointer, array, tag, function, QTy, type_in, Fn, fn, unknown, known, QTys, end, more, TypesTy, LayoutTy, TagTy}
use Rattle.c65_ctype.specs.Sizes.{size_in, size_of}
use Rattle.c65_ctype.specs.Compatible.{same_int, same_bool, layouts_meet, members_meet, tags_meet, each_in, agrees, are_compatible}
use Rattle.c65_csem.specs.Trees.{Typed, node, pack, Nodes, none, some, ObjectTy, UnitTy, FuncTy}
use Rattle.c65_csem.specs.Places.{plain, is_scalar, is_small, is_passed, alike}
use Rattle.c65_csem.specs.Typed.{AreGiven, FitsFn, IsGiven, AreTyped}
use Rattle.c65_csem.specs.Units.{IsParam, AreParams, MatchParams}
use Rattle.c65_meaning.specs.Shapes.{bare_type, types_of, object_in}
use Rattle.c65_meaning.specs.Calls.{promoted, is_variadic, passed_by, passed_to, fit, parameter_type, fit_objects, fit_definition, agree, accepts}
use Rattle.c65_genframe.specs.Frames.{has_prototype}
use Rattle.c65_gen_law_stack.specs.Parameters.{passed_type, IsArgument, IsTaken, AreTaken}
use Rattle.c65_gen_law_stack.specs.Parameters as parameters
use Rattle.c65_gen_law_stack.proofs.ParameterLaws.{same_kind, plain_type, alike_in, argument_taken}
use Rattle.c65_agree_slots.specs.Taken.{AcceptedArgumentsAreTaken}
use Rattle.c65_agree_slots.proofs.Taken.{like_int, like_pointer, like_tag, small_bounds}

-- ---- compatible structures and unions have one size

layouts_size : (test : ℕ × ℕ → Bool) (a b : Option LayoutTy) → 1 ≤ size_in a → 1 ≤ size_in b → each_in test (layouts_meet [] a b) ≡ true → size_in a ≡ size_in b
layouts_size test None b least other h = absurd (omega (arith, least))
layouts_size test (Some a) None least other h = absurd (omega (arith, other))
layouts_size test (Some a) (Some b) least other h = go (same_bool a.is_union b.is_union && a.size == b.size) refl h
  where
    go : (m : Bool) → (same_bool a.is_union b.is_union && a.size == b.size) ≡ m → each_in test (if m then members_meet [] a.members b.members else None) ≡ true → a.size ≡ b.size
    go true e h = eqb-true a.size b.size (and_parts (same_bool a.is_union b.is_union) (a.size == b.size) e).1
    go false e h = absurd cc

abbrev layout_in : Option TagTy → Option LayoutTy
layout_in t = option_and_then (λ x. x.layout) t

tags_size : (test : ℕ × ℕ → Bool) (a b : Option TagTy) → 1 ≤ size_in (layout_in a) → 1 ≤ size_in (layout_in b) → each_in test (tags_meet [] a b) ≡ true → size_in (layout_in a) ≡ size_in (layout_in b)
tags_size test None b least other h = absurd (omega (arith, least))
tags_size test (Some a) None least other h = absurd (omega (arith, other))
tags_size test (Some a) (Some b) least other h = go (a.unit == b.unit) h
  where
    go : (m : Bool) → each_in test (if m then None else layouts_meet [] a.layout b.layout) ≡ true → size_in a.layout ≡ size_in b.layout
    go true h = absurd cc
    go false h = layouts_size test a.layout b.layout least other h

pairs_size : (types : TypesTy) (n i j : ℕ) → 1 ≤ n → 1 ≤ size_of types (tag i) → 1 ≤ size_of types (tag j) → agrees types n (i, j) ≡ true → size_of types (tag i) ≡ size_of types (tag j)
pairs_size types zero i j one least other h = absurd (omega (arith, one))
pairs_size types (suc n) i j one least other h = go (i == j) refl h
  where
    go : (m : Bool) → (i == j) ≡ m → each_in (agrees types n) (if m then Some [] else tags_meet [] (slice_get types.tags i) (slice_get types.tags j)) ≡ true → size_of types (tag i) ≡ size_of types (tag j)
    go true e h = ap (λ (k : ℕ). size_of types (tag k)) (eqb-true i j e)
    go false e h = tags_size (agrees types n) (slice_get types.tags i) (slice_get types.tags j) least other h

if_true : (b : Bool) → (if b then true else false) ≡ true → b ≡ true
if_true true h = refl
if_true false h = h

-- ---- what is compatible with a type

abbrev pub Meets : TypesTy → Ty → Ty → Type 0
Meets types t s = are_compatible types (plain t) (plain s) ≡ true

pub met_int : (types : TypesTy) (k : IntType) (s : Ty) → Meets types (int k) s → s ≡ int k
met_int types k (int j) h = go (same_int k j) refl h
  where
    go : (m : Bool) → same_int k j ≡ m → each_in (agrees types (2 ^ 64)) (if m then Some [] else None) ≡ true → int j ≡ int k
    go true e h = ap int (sym (same_kind k j e))
    go false e h = absurd cc
met_int types k void h = absurd cc
met_int types k (pointer q) h = absurd cc
met_int types k (array q n) h = absurd cc
met_int types k (tag n) h = absurd cc
met_int types k (function f) h = absurd cc

pub met_pointer : (types : TypesTy) (q : QTy) (s : Ty) → Meets types (pointer q) s → (p : QTy) × (s ≡ pointer p)
met_pointer types q (pointer p) h = (p, refl)
met_pointer types q void h = absurd cc
met_pointer types q (int k) h = absurd cc
met_pointer types q (array p n) h = absurd cc
met_pointer types q (tag n) h = absurd cc
met_pointer types q (function f) h = absurd cc

pub met_tag : (types : TypesTy) (m : ℕ) (s : Ty) → Meets types (tag m) s → (n : ℕ) × (s ≡ tag n) × (1 ≤ size_of types (tag m) → 1 ≤ size_of types (tag n) → size_of types (tag m) ≡ size_of types (tag n))
met_tag types m (tag n) h = (n, refl, λ least other. pairs_size types (2 ^ 64) m n (omega arith) least other (if_true (agrees types (2 ^ 64) (m, n)) h))
met_tag types m void h = absurd cc
met_tag types m (int k) h = absurd cc
met_tag types m (pointer q) h = absurd cc
met_tag types m (array q n) h = absurd cc
met_tag types m (function f) h = absurd cc

-- ---- a type whose values are passed

-- like a type with which this one is compatible, and of its size
record Matches (types : TypesTy) (t x : Ty) : Type 0 where
  like : alike t x ≡ true
  size : size_of types t ≡ size_of types x

same_self : (k : IntType) → same_int k k ≡ true
same_self k = eq-eqb (number_of k) (number_of k) refl

small_some : (types : TypesTy) (t : Ty) (m : ℕ) → t ≡ tag m → is_passed types t ≡ true → 1 ≤ size_of types (tag m)
small_some types t m same passed =
    let small : is_passed types (tag m) ≡ true = ap (is_passed types) (sym same) ∙ passed in
    (small_bounds (size_of types (tag m)) small).0

matched : (types : TypesTy) (t s x : Ty) → is_passed types x ≡ true → is_passed types t ≡ true → alike t s ≡ true → size_of types t ≡ size_of types s → Meets types x s → Matches types t x
matched types t s (int k) passed whole a size h =
    let is : s ≡ int k = met_int types k s h in
    let own : t ≡ int k = like_int t k (ap (alike t) (sym is) ∙ a) in
    record { like = ap (λ (y : Ty). alike y (int k)) own ∙ same_self k; size = ap (size_of types) own }
matched types t s (pointer q) passed whole a size h =
    let is = met_pointer types q s h in
    let own = like_pointer t is.0 (ap (alike t) (sym is.1) ∙ a) in
    record { like = ap (λ (y : Ty). alike y (pointer q)) own.1; size = ap (size_of types) own.1 }
matched types t s (tag m) passed whole a size h =
    let is = met_tag types m s h in
    let own = like_tag t is.0 (ap (alike t) (sym is.1) ∙ a) in
    let sized : size_of types t ≡ size_of types (tag is.0) = size ∙ ap (size_of types) is.1 in
    let mine : size_of types t ≡ size_of types (tag own.0) = ap (size_of types) own.1 in
    let other : 1 ≤ size_of types (tag is.0) = omega (arith, sized, mine, small_some types t own.0 own.1 whole) in
    record { like = ap (λ (y : Ty). alike y (tag m)) own.1; size = sized ∙ sym (is.2 (small_some types (tag m) m refl passed) other) }
matched types t s void passed whole a size h = absurd cc
matched types t s (array q n) passed whole a size h = absurd cc
matched types t s (function f) passed whole a size h = absurd cc

alike_self : (types : TypesTy) (t : Ty) → is_passed types t ≡ true → alike t t ≡ true
alike_self types (int k) h = same_self k
alike_self types (pointer q) h = refl
alike_self types (tag n) h = refl
alike_self types void h = absurd cc
alike_self types (array q n) h = absurd cc
alike_self types (function f) h = absurd cc

-- ---- arguments

pub argument_of : (u : UnitTy) (e : Typed) → IsGiven u e → IsArgument u e
argument_of u (node t (pack e)) h = parameters.bytes h.1.0
argument_of u (node t _) h = parameters.value h.1.0.0

passes : (u : UnitTy) (e : Typed) → IsArgument u e → is_passed u.types (bare_type e) ≡ true
passes u e (parameters.value scalar) = or_left (is_scalar (bare_type e)) (is_small u.types (bare_type e)) scalar
passes u (node q (pack e)) (parameters.bytes small) = or_right (is_scalar (type_in q)) (is_small u.types (type_in q)) small

some_same : (x y : ObjectTy) → ◌≡◌ {A = Option ObjectTy} (Some x) (Some y) → x ≡ y
some_same x y h = cc

-- for a definition with a prototype
pub taken_known : (u : UnitTy) (qs : QTys) (es : Nodes) (is : List ℕ) → AreTyped u es → All (IsParam u) is → AreParams u qs is → fit u.types (types_of es) false qs ≡ true → AreTaken u true es is
taken_known u end none [] typed params match fits = tt
taken_known u end none (i ∷ is) typed params match fits = absurd match
taken_known u end (some e es) is typed params match fits = absurd cc
taken_known u (more q qs) none is typed params match fits = absurd cc
taken_known u (more q qs) (some e es) [] typed params match fits = absurd match
taken_known u (more q qs) (some e es) (i ∷ is) typed params match fits =
    let both = and_parts (are_compatible u.types (plain (bare_type e)) (plain (type_in q))) (fit u.types (types_of es) false qs) fits in
    let argument : IsArgument u e = argument_of u e typed.0 in
    let param : IsParam u i = All-head (IsParam u) i is params in
    let same : match.0 ≡ param.object = some_same match.0 param.object (sym match.1 ∙ param.framed.0) in
    let whole : is_passed u.types (type_in match.0.ty) ≡ true = ap (λ (o : ObjectTy). is_passed u.types (type_in o.ty)) same ∙ param.passed in
    let own : Matches u.types (type_in match.0.ty) (bare_type e) = matched u.types (type_in match.0.ty) (type_in q) (bare_type e) (passes u e argument) whole (sym (alike_in match.0.ty q) ∙ match.2) match.3 both.0 in
    (match.0, match.1, argument_taken u (type_in match.0.ty) e argument own.like own.size, taken_known u qs es is typed.1 (All-tail (IsParam u) i is params) match.4 both.1)

-- and for one without
promoted_passed : (types : TypesTy) (t : Ty) → is_passed types t ≡ true → is_passed types (promoted t) ≡ true
promoted_passed types (int k) h = refl
promoted_passed types (pointer q) h = refl
promoted_passed types (tag n) h = h
promoted_passed types void h = h
promoted_passed types (array q n) h = h
promoted_passed types (function f) h = h

promoted_type : (t : Ty) → promoted t ≡ passed_type false t
promoted_type (int k) = refl
promoted_type (pointer q) = refl
promoted_type (tag n) = refl
promoted_type void = refl
promoted_type (array q n) = refl
promoted_type (function f) = refl

taken_unknown : (u : UnitTy) (es : Nodes) (is : List ℕ) → AreTyped u es → All (IsParam u) is → fit_objects u (types_of es) is ≡ true → AreTaken u false es is
taken_unknown u none [] typed params fits = tt
taken_unknown u none (i ∷ is) typed params fits = absurd cc
taken_unknown u (some e es) [] typed params fits = absurd cc
taken_unknown u (some e es) (i ∷ is) typed params fits =
    let both = and_parts (are_compatible u.types (plain (bare_type e)) (plain (promoted (parameter_type u (object_in u i))))) (fit_objects u (types_of es) is) fits in
    let argument : IsArgument u e = argument_of u e typed.0 in
    let param : IsParam u i = All-head (IsParam u) i is params in
    let t : Ty = type_in param.object.ty in
    let whole : is_passed u.types (promoted t) ≡ true = promoted_passed u.types t param.passed in
    let met : Meets u.types (bare_type e) (promoted t) = ap (λ (o : Option ObjectTy). are_compatible u.types (plain (bare_type e)) (plain (promoted (parameter_type u o)))) (sym param.framed.0) ∙ both.0 in
    let own : Matches u.types (promoted t) (bare_type e) = matched u.types (promoted t) (promoted t) (bare_type e) (passes u e argument) whole (alike_self u.types (promoted t) whole) refl met in
    (param.object, param.framed.0, subst (λ (x : Ty). IsTaken u x e) (promoted_type t) (argument_taken u (promoted t) e argument own.like own.size), taken_unknown u es is typed.1 (All-tail (IsParam u) i is params) both.1)

taken_by : (u : UnitTy) (g : FuncTy) (es : Nodes) (t : Fn) → AreTyped u es → All (IsParam u) g.params → MatchParams u t g.params → is_variadic t ≡ false → fit_definition u (types_of es) g.params t ≡ true → AreTaken u (has_prototype t) es g.params
taken_by u g es (fn q unknown v c) typed params match fixed fits = taken_unknown u es g.params typed params fits
taken_by u g es (fn q (known ps) false c) typed params match fixed fits = taken_known u ps es g.params typed params match fits
taken_by u g es (fn q (known ps) true c) typed params match fixed fits = absurd cc

-- ---- calls

-- a typed call passes its arguments as they are
passed_by_same : (u : UnitTy) (qs : QTys) (v : Bool) (es : Nodes) → AreGiven u qs v es → passed_by qs (types_of es) ≡ types_of es
passed_by_same u end v es given = refl
passed_by_same u (more q qs) v none given = absurd given
passed_by_same u (more q qs) v (some e es) given =
    let type : type_in q ≡ bare_type e = sym (plain_type q) ∙ ap type_in (sym given.0) in
    ap (λ (t : Ty). t ∷ passed_by qs (types_of es)) type ∙ ap (λ (ts : List Ty). bare_type e ∷ ts) (passed_by_same u qs v es given.1)

pub passed_same : (u : UnitTy) (t : Fn) (es : Nodes) → FitsFn u t es → passed_to (Some t) (types_of es) ≡ types_of es
passed_same u (fn q unknown v c) es given = refl
passed_same u (fn q (known ps) v c) es given = passed_by_same u ps v es given

pub accepted_arguments_are_taken : AcceptedArgumentsAreTaken
accepted_arguments_are_taken u t f es g body call typed well fixed accepted =
    let type : type_in f ≡ pointer (plain (function call.callee)) = ap type_in call.named in
    let mine : accepts u (pointer (plain (function call.callee))) (types_of es) g ≡ true = ap (λ (x : Ty). accepts u x (types_of es) g) (sym type) ∙ accepted in
    let fits : fit_definition u (passed_to (Some call.callee) (types_of es)) g.params g.ty ≡ true = (and_parts (agree u (Some call.callee) g.ty) (fit_definition u (passed_to (Some call.callee) (types_of es)) g.params g.ty) mine).1 in
    let same : fit_definition u (types_of es) g.params g.ty ≡ true = ap (λ (ts : List Ty). fit_definition u ts g.params g.ty) (sym (passed_same u call.callee es call.given)) ∙ fits in
    taken_by u g es g.ty typed well.params well.prototype fixed same
