-- The types of a call that a function of the library accepts.
use Rattle.std.proofs.Common.{◌≡◌, ℕ, ◌⊎◌, inl, inr, Bool, true, false, List, [], Option, Some, None, refl, sym, ap, ◌∙◌, subst, arith}
use Rattle.std.specs.Prelude.{if◌then◌else◌, ◌&&◌, ◌||◌, ◌^◌, not, option_and_then}
use Rattle.std.proofs.lemmas.Bool.{and_parts}
use Rattle.std.proofs.lemmas.List.Elements.{All-get_or}
use Rattle.std.proofs.lemmas.Option.{get_or_from_slice_get, slice_get_within}
use Rattle.c65_base.specs.declared.library.Library.{Library}
use Rattle.c65_base.specs.declared.library.Library.TheVariants.{Putchar, Getchar, Puts, Exit, Memcpy, Memset, Strcmp, Strcpy, Strlen, Printf}
use Rattle.c65_ints.specs.declared.types.IntType.{IntType}
use Rattle.c65_ints.specs.declared.types.IntType.TheVariants.{Int, UInt}
use Rattle.c65_ctype.specs.Trees.{Ty, void, int, pointer, array, tag, function, QTy, qual, type_in, Fn, fn, QTys, end, more}
use Rattle.c65_ctype.specs.Sizes.{size_of as size_of_type}
use Rattle.c65_ctype.specs.Compatible.{Pairs, same_int, same_bool, meet, qualified_meet, functions_meet, params_meet, each_in, agrees}
use Rattle.c65_csem.specs.Library.{library_result, library_params, takes_more, library_type}
use Rattle.c65_csem.specs.Trees.{Typed, node, pack, Nodes, none, some, UnitTy}
use Rattle.c65_csem.specs.Places.{plain, plain_of, is_scalar, is_small}
use Rattle.c65_csem.specs.Typed.{AreTyped, arguments_size, result_of}
use Rattle.c65_csem.specs.Views.{unit_of}
use Rattle.c65_csem_names.specs.Library.{IsTypedAs, HasLibraryType}
use Rattle.c65_meaning.specs.Shapes.{types_of}
use Rattle.c65_meaning.specs.Calls.{count_of, named_count, passed_to, fit, fit_definition, agree, accepts}
use Rattle.c65_genframe.specs.Frames.{Framed, is_variadic, takes_stack}
use Rattle.c65_genload.specs.Conversions.{size_of}
use Rattle.c65_genexpr.specs.Types.{kind_of, bare}
use Rattle.c65_genexpr.specs.Arguments.{is_fast, is_counted, passed_size}
use Rattle.c65_gen_law_stack.specs.Parameters.{IsArgument}
use Rattle.c65_gen_law_stack.specs.Parameters as parameters
use Rattle.c65_gen_law_stack.proofs.ParameterLaws.{same_kind, scalar_size}
use Rattle.c65_agree_state.specs.World.{unit_in}
use Rattle.c65_agree_invoke.specs.Accepted.{IsDeclared}
use Rattle.c65_agree_invoke.specs.Nodes.{sizes_of}
use Rattle.c65_agree_invoke.proofs.Accepted.{accepted_calls_agree}
use Rattle.c65_agree_slots.proofs.Accepted.{Meets, met_int, met_tag, argument_of, passed_same}
use Rattle.c65_agree_slots.proofs.Taken.{int_fits, small_bytes}
use Rattle.c65_agree_library_expr.specs.Callees.{named_by, AreFurther, AreNamed, IsResultOf}
use Rattle.c65_agree_library_typed.specs.Laws.{AcceptedLibraryCallsFit, LibraryFunctionsHaveTypes, TypedArgumentsAreFew}

-- ---- parameters

-- a number of two bytes, or a pointer
abbrev IsWordType : Ty → Type 0
IsWordType t = (t ≡ int Int) ⊎ ((t ≡ int UInt) ⊎ ((q : QTy) × (t ≡ pointer q)))

abbrev AreWordTypes : QTys → Type 0
AreWordTypes end = Unit {0}
AreWordTypes (more q qs) = IsWordType (type_in q) × AreWordTypes qs

a_number : IsWordType (int Int)
a_number = inl refl

a_count : IsWordType (int UInt)
a_count = inr (inl refl)

a_place : (q : QTy) → IsWordType (pointer q)
a_place q = inr (inr (q, refl))

params_are_words : (s : Bool) (l : Library) → AreWordTypes (library_params s l)
params_are_words s Putchar = (a_number, tt)
params_are_words s Getchar = tt
params_are_words s Puts = (a_place _, tt)
params_are_words s Exit = (a_number, tt)
params_are_words s Memcpy = (a_place _, (a_place _, (a_count, tt)))
params_are_words s Memset = (a_place _, (a_number, (a_count, tt)))
params_are_words s Strcmp = (a_place _, (a_place _, tt))
params_are_words s Strcpy = (a_place _, (a_place _, tt))
params_are_words s Strlen = (a_place _, tt)
params_are_words s Printf = (a_place _, tt)

so_many : (s : Bool) (l : Library) → count_of (library_params s l) ≡ named_by l
so_many s Putchar = refl
so_many s Getchar = refl
so_many s Puts = refl
so_many s Exit = refl
so_many s Memcpy = refl
so_many s Memset = refl
so_many s Strcmp = refl
so_many s Strcpy = refl
so_many s Strlen = refl
so_many s Printf = refl

-- ---- arguments

-- an argument that meets such a parameter is one of two bytes
word_kind : (k : IntType) (t : Ty) → t ≡ int k → IsWordType t → size_of k ≡ 2
word_kind k t same (inl e) = let one : int Int ≡ int k = sym e ∙ same in let kind : Int ≡ k = cc in ap size_of (sym kind)
word_kind k t same (inr (inl e)) = let one : int UInt ≡ int k = sym e ∙ same in let kind : UInt ≡ k = cc in ap size_of (sym kind)
word_kind k t same (inr (inr e)) = let clash : pointer e.0 ≡ int k = sym e.1 ∙ same in cc

no_tag : {A : Type 0} (n : ℕ) (t : Ty) → t ≡ tag n → IsWordType t → A
no_tag n t same (inl e) = let clash : int Int ≡ tag n = sym e ∙ same in cc
no_tag n t same (inr (inl e)) = let clash : int UInt ≡ tag n = sym e ∙ same in cc
no_tag n t same (inr (inr e)) = let clash : pointer e.0 ≡ tag n = sym e.1 ∙ same in cc

scalar_word : (u : UnitTy) (x t : Ty) → is_scalar x ≡ true → Meets u.types x t → IsWordType t → size_of (kind_of x) ≡ 2
scalar_word u (int k) t scalar met word = word_kind k t (met_int u.types k t met) word
scalar_word u (pointer q) t scalar met word = refl
scalar_word u void t scalar met word = absurd cc
scalar_word u (array q n) t scalar met word = absurd cc
scalar_word u (tag n) t scalar met word = absurd cc
scalar_word u (function g) t scalar met word = absurd cc

no_small : {A : Type 0} (u : UnitTy) (x t : Ty) → is_small u.types x ≡ true → Meets u.types x t → IsWordType t → A
no_small u (tag n) t small met word = let m = met_tag u.types n t met in no_tag m.0 t m.1 word
no_small u (int k) t small met word = absurd cc
no_small u (pointer q) t small met word = absurd cc
no_small u void t small met word = absurd cc
no_small u (array q n) t small met word = absurd cc
no_small u (function g) t small met word = absurd cc

word_size : (f : Framed) (u : UnitTy) (e : Typed) (t : Ty) → IsArgument u e → Meets u.types (bare e) t → IsWordType t → passed_size f e ≡ 2
word_size f u e t (parameters.value scalar) met word = scalar_size f e scalar ∙ scalar_word u (bare e) t scalar met word
word_size f u (node q (pack e)) t (parameters.bytes small) met word = no_small u (type_in q) t small met word

-- any argument has the bytes of its type
scalar_own : (u : UnitTy) (x : Ty) → is_scalar x ≡ true → size_of (kind_of x) ≡ size_of_type u.types x
scalar_own u (int k) scalar = sym (int_fits u.types k).0
scalar_own u (pointer q) scalar = refl
scalar_own u void scalar = absurd cc
scalar_own u (array q n) scalar = absurd cc
scalar_own u (tag n) scalar = absurd cc
scalar_own u (function g) scalar = absurd cc

own_size : (f : Framed) (e : Typed) → IsArgument (unit_of f.parts) e → passed_size f e ≡ size_of_type (unit_of f.parts).types (bare e)
own_size f e (parameters.value scalar) = scalar_size f e scalar ∙ scalar_own (unit_of f.parts) (bare e) scalar
own_size f (node q (pack e)) (parameters.bytes small) = small_bytes (unit_of f.parts).types (type_in q) small

further_fit : (f : Framed) (es : Nodes) → AreTyped (unit_of f.parts) es → AreFurther (unit_of f.parts) f es
further_fit f none typed = tt
further_fit f (some e es) typed = (own_size f e (argument_of (unit_of f.parts) e typed.0), further_fit f es typed.1)

named_fit : (f : Framed) (v : Bool) (qs : QTys) (es : Nodes) → AreTyped (unit_of f.parts) es → AreWordTypes qs → fit (unit_of f.parts).types (types_of es) v qs ≡ true → AreNamed (unit_of f.parts) f v (count_of qs) es
named_fit f true end es typed words fits = further_fit f es typed
named_fit f false end none typed words fits = tt
named_fit f false end (some e es) typed words fits = absurd cc
named_fit f v (more q qs) none typed words fits = absurd cc
named_fit f true (more q qs) (some e es) typed words fits =
    let both = and_parts _ _ fits in
    (word_size f (unit_of f.parts) e (type_in q) (argument_of (unit_of f.parts) e typed.0) both.0 words.0, named_fit f true qs es typed.1 words.1 both.1)
named_fit f false (more q qs) (some e es) typed words fits =
    let both = and_parts _ _ fits in
    (word_size f (unit_of f.parts) e (type_in q) (argument_of (unit_of f.parts) e typed.0) both.0 words.0, named_fit f false qs es typed.1 words.1 both.1)

-- so all of them have the bytes that their types do
sizes_same : (f : Framed) (es : Nodes) → AreTyped (unit_of f.parts) es → sizes_of f es ≡ arguments_size (unit_of f.parts).types es
sizes_same f none typed = refl
sizes_same f (some (node t e) es) typed = omega (arith, own_size f (node t e) (argument_of (unit_of f.parts) (node t e) typed.0), sizes_same f es typed.1)

pub typed_arguments_are_few : TypedArgumentsAreFew
typed_arguments_are_few f t callee es call typed = let same = sizes_same f es typed in omega (arith, same, call.few)

-- ---- the result

-- results of types that meet do so
record Met (t s : Ty) : Type 0 where
  pairs : Pairs
  are : meet [] t s ≡ Some pairs

results_meet : (test : ℕ × ℕ → Bool) (a b : Fn) → each_in test (functions_meet [] a b) ≡ true → Met (type_in (result_of a)) (type_in (result_of b))
results_meet test (fn (qual t c v) xs va cd) (fn (qual s d w) ys vb ce) h = go (same_bool cd ce) h
  where
    by : (qualifiers : Bool) (o : Option Pairs) → meet [] t s ≡ o → each_in test (option_and_then (λ given. params_meet given xs va ys vb) (if qualifiers then o else None)) ≡ true → Met t s
    by true (Some ps) e h = record { pairs = ps; are = e }
    by true None e h = let clash : false ≡ true = h in cc
    by false o e h = let clash : false ≡ true = h in cc

    go : (b : Bool) → each_in test (if b then option_and_then (λ given. params_meet given xs va ys vb) (qualified_meet [] (qual t c v) (qual s d w)) else None) ≡ true → Met t s
    go true h = by (same_bool c d && same_bool v w) (meet [] t s) refl h
    go false h = let clash : false ≡ true = h in cc

result_int : (k : IntType) (t : Ty) → Met t (int k) → t ≡ int k
result_int k (int j) m = by (same_int j k) refl m.are
  where
    by : (b : Bool) → same_int j k ≡ b → (if b then Some [] else None) ≡ Some m.pairs → int j ≡ int k
    by true e h = ap int (same_kind j k e)
    by false e h = cc
result_int k void m = let h : None ≡ Some m.pairs = m.are in cc
result_int k (pointer q) m = let h : None ≡ Some m.pairs = m.are in cc
result_int k (array q n) m = let h : None ≡ Some m.pairs = m.are in cc
result_int k (tag n) m = let h : None ≡ Some m.pairs = m.are in cc
result_int k (function g) m = let h : None ≡ Some m.pairs = m.are in cc

result_pointer : (p : QTy) (t : Ty) → Met t (pointer p) → (q : QTy) × (t ≡ pointer q)
result_pointer p (pointer q) m = (q, refl)
result_pointer p (int k) m = let h : None ≡ Some m.pairs = m.are in cc
result_pointer p void m = let h : None ≡ Some m.pairs = m.are in cc
result_pointer p (array q n) m = let h : None ≡ Some m.pairs = m.are in cc
result_pointer p (tag n) m = let h : None ≡ Some m.pairs = m.are in cc
result_pointer p (function g) m = let h : None ≡ Some m.pairs = m.are in cc

result_fits : (s : Bool) (l : Library) (t : Ty) → Met t (type_in (library_result s l)) → IsResultOf l t
result_fits s Putchar t m = result_int Int t m
result_fits s Getchar t m = result_int Int t m
result_fits s Puts t m = result_int Int t m
result_fits s Exit t m = tt
result_fits s Memcpy t m = result_pointer _ t m
result_fits s Memset t m = result_pointer _ t m
result_fits s Strcmp t m = result_int Int t m
result_fits s Strcpy t m = result_pointer _ t m
result_fits s Strlen t m = result_int UInt t m
result_fits s Printf t m = result_int Int t m

-- ---- the call

or_none : (b : Bool) → (b || false) ≡ b
or_none true = refl
or_none false = refl

plain_result : (q : QTy) → type_in (plain_of q) ≡ type_in q
plain_result (qual t c v) = refl

pub accepted_library_calls_fit : AcceptedLibraryCallsFit
accepted_library_calls_fit f l is_signed g t callee es call declared typed type accepted =
    let u : UnitTy = unit_of f.parts in
    let own : type_in callee ≡ pointer (plain (function call.callee)) = ap type_in call.named in
    let mine : accepts u (pointer (plain (function call.callee))) (types_of es) g ≡ true = ap (λ (x : Ty). accepts u x (types_of es) g) (sym own) ∙ accepted in
    let parts = and_parts (agree u (Some call.callee) g.ty) (fit_definition u (passed_to (Some call.callee) (types_of es)) g.params g.ty) mine in
    let same : fit_definition u (types_of es) g.params g.ty ≡ true = ap (λ (ts : List Ty). fit_definition u ts g.params g.ty) (sym (passed_same u call.callee es call.given)) ∙ parts.1 in
    let fits : fit u.types (types_of es) (takes_more l) (library_params is_signed l) ≡ true = ap (λ (x : Fn). fit_definition u (types_of es) g.params x) (sym type) ∙ same in
    let alike = accepted_calls_agree u call.callee false false (types_of es) g declared (subst IsDeclared (sym type) tt) mine in
    let stack : takes_stack g.ty ≡ takes_more l = ap takes_stack type ∙ or_none (takes_more l) in
    let met : Met (type_in (result_of call.callee)) (type_in (result_of (library_type is_signed l))) = results_meet (agrees u.types (2 ^ 64)) call.callee (library_type is_signed l) (ap (λ (x : Fn). agree u (Some call.callee) x) (sym type) ∙ parts.0) in
    let result : type_in t ≡ type_in (result_of call.callee) = ap type_in call.result ∙ plain_result (result_of call.callee) in
    record {
      fast = ap is_fast own ∙ (alike.0 ∙ ap not stack);
      counted = ap is_counted own ∙ (alike.1 ∙ ap is_variadic type);
      taken = subst (λ n. AreNamed u f (takes_more l) n es) (so_many is_signed l) (named_fit f (takes_more l) (library_params is_signed l) es typed (params_are_words is_signed l) fits);
      result = subst (IsResultOf l) (sym result) (result_fits is_signed l (type_in (result_of call.callee)) met);
    }

-- ---- the function

pub library_functions_have_types : LibraryFunctionsHaveTypes
library_functions_have_types g i l entry typed found bodiless library =
    let s : Bool = typed.0 in
    let own : HasLibraryType s entry = subst (HasLibraryType s) (get_or_from_slice_get (unit_in g).funcs i entry entry found) (All-get_or (HasLibraryType s) (unit_in g).funcs i entry (slice_get_within (unit_in g).funcs i entry found) typed.1) in
    let type : entry.ty ≡ library_type s l = subst (λ (o : Option Library). IsTypedAs s o entry.ty) library own in
    ((s, type), record { is_function = found; no_body = bodiless; library = library; names = ap named_count type ∙ so_many s l })
