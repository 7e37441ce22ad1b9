-- A call and the function that it calls are of one result.
use Rattle.std.proofs.Common.{◌≡◌, ℕ, ◌≤◌, Bool, true, false, [], ◌∷◌, ◌++◌, Option, Some, None, refl, sym, ap, ◌∙◌, subst}
use Rattle.std.specs.Prelude.{if◌then◌else◌, ◌&&◌, ◌||◌, ◌^◌, not, option_and_then}
use Rattle.std.proofs.lemmas.Bool.{and_parts}
use Rattle.c65_ctype.specs.Trees.{Ty, void, int, pointer, array, tag, function as function_type, QTy, qual, type_in, Fn, fn, Params, unknown, known, QTys, end, more, TypesTy}
use Rattle.c65_ctype.specs.Sizes.{size_of}
use Rattle.c65_ctype.specs.Compatible.{Pairs, same_int, same_bool, same_count, all_stay, meet, qualified_meet, functions_meet, params_meet, lists_meet, parameters_meet, each, each_in, agrees}
use Rattle.c65_ctype.specs.Views.{types_of as types_in}
use Rattle.c65_csem.specs.declared.items.Parts.{Parts}
use Rattle.c65_csem.specs.Trees.{Nodes, UnitTy, FuncTy}
use Rattle.c65_csem.specs.Places.{plain, plain_of, is_void, is_scalar, is_small, is_passed}
use Rattle.c65_csem.specs.Typed.{IsCall, IsResult, result_of}
use Rattle.c65_csem.specs.Units.{HasBody, IsBody}
use Rattle.c65_meaning.specs.Shapes.{types_of}
use Rattle.c65_meaning.specs.Calls.{passed_to, fit_definition, agree, accepts}
use Rattle.c65_genframe.specs.Frames.{Framed, type_bytes}
use Rattle.c65_genframe.specs.Registers.{registers}
use Rattle.c65_genframe.specs.Sizes.{bytes_or}
use Rattle.c65_genexpr.specs.Types.{outcome_of, given_bytes}
use Rattle.c65_gen_law_stack.proofs.ParameterLaws.{plain_type}
use Rattle.c65_agree_state.specs.World.{unit_in}
use Rattle.c65_agree_homes.proofs.Own.{has_body}
use Rattle.c65_agree_function.proofs.Given.{functions_give_by_type}
use Rattle.c65_agree_slots.proofs.Accepted.{Meets, met_int, met_pointer, met_tag}
use Rattle.c65_agree_slots.proofs.Taken.{int_fits, small_bounds, small_size}
use Rattle.c65_agree_slots.specs.Results.{CallsTakeWhatIsGiven}

-- ---- types of functions that are compatible have compatible results

module _ (test : ℕ × ℕ → Bool) where
  abbrev Agree : Option Pairs → Type 0
  Agree o = each_in test o ≡ true

  both_hold : (b x y : Bool) → (x ≡ true → y ≡ true) → (if b then x else false) ≡ true → (if b then y else false) ≡ true
  both_hold true x y on h = on h
  both_hold false x y on h = h

  each_first : (ps qs : Pairs) → each test (ps ++ qs) ≡ true → each test ps ≡ true
  each_first [] qs h = refl
  each_first (p ∷ ps) qs h = both_hold (test p) (each test (ps ++ qs)) (each test ps) (each_first ps qs) h

  chosen : (b : Bool) (o : Option Pairs) → Agree (if b then o else None) → Agree o
  chosen true o h = h
  chosen false o h = let clash : false ≡ true = h in cc

  -- what is met first is met
  first_met : (o : Option Pairs) (next : Pairs → Option Pairs) → ((given : Pairs) → Agree (next given) → each test given ≡ true) → Agree (option_and_then next o) → Agree o
  first_met None next keeps h = h
  first_met (Some given) next keeps h = keeps given h

  mutual
    -- the pairs that were met before are among those that are met
    meet_kept : (ps : Pairs) (t u : Ty) → Agree (meet ps t u) → each test ps ≡ true
    meet_kept ps void void h = h
    meet_kept ps (int s) (int t) h = chosen (same_int s t) (Some ps) h
    meet_kept ps (pointer q) (pointer r) h = qualified_kept ps q r h
    meet_kept ps (array q m) (array r n) h = qualified_kept ps q r (chosen (same_count m n) (qualified_meet ps q r) h)
    meet_kept ps (tag s) (tag t) h = each_first ps ((s, t) ∷ []) h
    meet_kept ps (function_type f) (function_type g) h = functions_kept ps f g h
    meet_kept ps _ _ h = let clash : false ≡ true = h in cc

    qualified_kept : (ps : Pairs) (q r : QTy) → Agree (qualified_meet ps q r) → each test ps ≡ true
    qualified_kept ps (qual t c v) (qual u d w) h = meet_kept ps t u (chosen (same_bool c d && same_bool v w) (meet ps t u) h)

    functions_kept : (ps : Pairs) (f g : Fn) → Agree (functions_meet ps f g) → each test ps ≡ true
    functions_kept ps (fn q xs va cd) (fn r ys vb ce) h = qualified_kept ps q r (first_met (qualified_meet ps q r) (λ given. params_meet given xs va ys vb) (λ given met. params_kept given xs va ys vb met) (chosen (same_bool cd ce) (option_and_then (λ given. params_meet given xs va ys vb) (qualified_meet ps q r)) h))

    params_kept : (ps : Pairs) (xs : Params) (va : Bool) (ys : Params) (vb : Bool) → Agree (params_meet ps xs va ys vb) → each test ps ≡ true
    params_kept ps unknown va unknown vb h = h
    params_kept ps unknown va (known ys) vb h = chosen (not vb && all_stay ys) (Some ps) h
    params_kept ps (known xs) va unknown vb h = chosen (not va && all_stay xs) (Some ps) h
    params_kept ps (known xs) va (known ys) vb h = lists_kept ps xs ys (chosen (same_bool va vb) (lists_meet ps xs ys) h)

    lists_kept : (ps : Pairs) (xs ys : QTys) → Agree (lists_meet ps xs ys) → each test ps ≡ true
    lists_kept ps end end h = h
    lists_kept ps (more x xs) (more y ys) h = parameters_kept ps x y (first_met (parameters_meet ps x y) (λ given. lists_meet given xs ys) (λ given met. lists_kept given xs ys met) h)
    lists_kept ps end (more y ys) h = let clash : false ≡ true = h in cc
    lists_kept ps (more x xs) end h = let clash : false ≡ true = h in cc

    parameters_kept : (ps : Pairs) (x y : QTy) → Agree (parameters_meet ps x y) → each test ps ≡ true
    parameters_kept ps (qual t c v) (qual u d w) h = meet_kept ps t u h

  results_met : (ps : Pairs) (q r : QTy) (xs : Params) (va : Bool) (ys : Params) (vb : Bool) → Agree (option_and_then (λ given. params_meet given xs va ys vb) (qualified_meet ps q r)) → Agree (qualified_meet ps q r)
  results_met ps q r xs va ys vb h = first_met (qualified_meet ps q r) (λ given. params_meet given xs va ys vb) (λ given met. params_kept given xs va ys vb met) h

  results_meet : (q r : QTy) → Agree (qualified_meet [] q r) → Agree (meet [] (type_in q) (type_in r))
  results_meet (qual t c v) (qual u d w) h = chosen (same_bool c d && same_bool v w) (meet [] t u) h

  functions_results : (f g : Fn) → Agree (functions_meet [] f g) → Agree (meet [] (type_in (result_of f)) (type_in (result_of g)))
  functions_results (fn q xs va cd) (fn r ys vb ce) h = results_meet q r (results_met [] q r xs va ys vb (chosen (same_bool cd ce) (option_and_then (λ given. params_meet given xs va ys vb) (qualified_meet [] q r)) h))

-- ---- such results come in the same registers

-- nothing, or what may be passed
abbrev pub IsGivenType : TypesTy → Ty → Type 0
IsGivenType types t = (is_void t || is_passed types t) ≡ true

scalar_given : (types : TypesTy) (t : Ty) → is_scalar t ≡ true → IsGivenType types t
scalar_given types (int k) h = refl
scalar_given types (pointer q) h = refl
scalar_given types void h = absurd cc
scalar_given types (array q n) h = absurd cc
scalar_given types (tag n) h = absurd cc
scalar_given types (function_type f) h = absurd cc

small_given : (types : TypesTy) (t : Ty) → is_small types t ≡ true → IsGivenType types t
small_given types (tag n) h = h
small_given types void h = absurd cc
small_given types (int k) h = absurd cc
small_given types (pointer q) h = absurd cc
small_given types (array q n) h = absurd cc
small_given types (function_type f) h = absurd cc

pub result_given : (u : UnitTy) (t : QTy) → IsResult u t → IsGivenType u.types (type_in t)
result_given u t IsResult.nothing = refl
result_given u t (IsResult.scalar is) = scalar_given u.types (type_in t) is.0
result_given u t (IsResult.structure is) = small_given u.types (type_in t) is.0

pub met_void : (types : TypesTy) (t : Ty) → Meets types void t → t ≡ void
met_void types void h = refl
met_void types (int k) h = absurd cc
met_void types (pointer q) h = absurd cc
met_void types (array q n) h = absurd cc
met_void types (tag n) h = absurd cc
met_void types (function_type f) h = absurd cc

-- a structure or union of 1 to 4 bytes
pub tag_bounds : (types : TypesTy) (r : Ty) (n : ℕ) → r ≡ tag n → IsGivenType types r → 1 ≤ size_of types (tag n)
tag_bounds types r n same given =
    let small : is_small types (tag n) ≡ true = ap (λ (x : Ty). is_void x || is_passed types x) (sym same) ∙ given in
    (small_bounds (size_of types (tag n)) small).0

module _ (parts : Parts) (f : Framed) (own : f.parts ≡ parts) where
  abbrev types : TypesTy
  types = types_in parts.types

  -- as many bytes are taken of such a result as the function gives
  results_same : (t r : Ty) → IsGivenType types t → IsGivenType types r → Meets types t r → bytes_or types r 0 ≡ given_bytes (outcome_of f t)
  results_same void r given other met = ap (λ (x : Ty). bytes_or types x 0) (met_void types r met)
  results_same (int k) r given other met = ap (λ (x : Ty). bytes_or types x 0) (met_int types k r met) ∙ (int_fits types k).0
  results_same (pointer q) r given other met = let p = met_pointer types q r met in ap (λ (x : Ty). bytes_or types x 0) p.1
  results_same (tag m) r given other met =
      let s = met_tag types m r met in
      let sizes : size_of types (tag m) ≡ size_of types (tag s.0) = s.2 (tag_bounds types (tag m) m refl given) (tag_bounds types r s.0 s.1 other) in
      let there : is_small types (tag s.0) ≡ true = ap (λ (x : Ty). is_void x || is_passed types x) (sym s.1) ∙ other in
      let mine : type_bytes f (tag m) ≡ bytes_or types (tag m) 0 = ap (λ (p : Parts). bytes_or (types_in p.types) (tag m) 0) own in
      ap (λ (x : Ty). bytes_or types x 0) s.1 ∙ (small_size types (tag s.0) there ∙ (sym sizes ∙ (sym (small_size types (tag m) given) ∙ sym mine)))
  results_same (array q n) r given other met = absurd cc
  results_same (function_type g) r given other met = absurd cc

-- ---- calls

pub accepted_results_meet : (u : UnitTy) (t c : QTy) (es : Nodes) (g : FuncTy) → IsCall u t c es → accepts u (type_in c) (types_of es) g ≡ true → Meets u.types (type_in t) (type_in (plain_of (result_of g.ty)))
accepted_results_meet u t c es g call accepted =
    let mine : accepts u (pointer (plain (function_type call.callee))) (types_of es) g ≡ true = ap (λ (x : Ty). accepts u x (types_of es) g) (sym (ap type_in call.named)) ∙ accepted in
    let agree_so : agree u (Some call.callee) g.ty ≡ true = (and_parts (agree u (Some call.callee) g.ty) (fit_definition u (passed_to (Some call.callee) (types_of es)) g.params g.ty) mine).0 in
    let results : Meets u.types (type_in (result_of call.callee)) (type_in (result_of g.ty)) = functions_results (agrees u.types (2 ^ 64)) call.callee g.ty agree_so in
    let own : type_in t ≡ type_in (result_of call.callee) = ap type_in call.result ∙ plain_type (result_of call.callee) in
    subst (λ (x : Ty). Meets u.types x (type_in (plain_of (result_of g.ty)))) (sym own) (subst (Meets u.types (type_in (result_of call.callee))) (sym (plain_type (result_of g.ty))) results)

pub calls_take_what_is_given : CallsTakeWhatIsGiven
calls_take_what_is_given g names b function body f t c es h is own call result accepted =
    let well : IsBody (unit_in g) function body = subst (HasBody (unit_in g) function) is (has_body g names b function h b.func function h.function) in
    let met = accepted_results_meet (unit_in g) t c es function call accepted in
    let same : bytes_or (types_in g.parts.types) (type_in (plain_of (result_of function.ty))) 0 ≡ given_bytes (outcome_of f (type_in t)) = results_same g.parts f own (type_in t) (type_in (plain_of (result_of function.ty))) (result_given (unit_in g) t result) (result_given (unit_in g) (plain_of (result_of function.ty)) well.gives) met in
    let bytes : bytes_or (types_in g.parts.types) (type_in (result_of function.ty)) 0 ≡ given_bytes (outcome_of f (type_in t)) = ap (λ (x : Ty). bytes_or (types_in g.parts.types) x 0) (sym (plain_type (result_of function.ty))) ∙ same in
    functions_give_by_type g names b function body h is ∙ ap registers bytes
