-- Arguments of a call that the meaning accepts of a function that takes further ones.
use Rattle.std.proofs.Common.{◌≡◌, ℕ, true, false, List, [], ◌∷◌, refl, sym, ap, subst, ◌∙◌}
use Rattle.std.specs.Prelude.{◌&&◌, Some, All}
use Rattle.std.proofs.lemmas.Bool.{and_parts}
use Rattle.c65_ctype.specs.Trees.{Ty, pointer, function, QTys, end, more, Fn, fn, unknown, known, type_in}
use Rattle.c65_ctype.specs.Compatible.{are_compatible}
use Rattle.c65_csem.specs.Trees.{Nodes, none, some, UnitTy, FuncTy}
use Rattle.c65_csem.specs.Places.{plain}
use Rattle.c65_csem.specs.Typed.{AreTyped}
use Rattle.c65_csem.specs.Units.{AreParams, IsParam, MatchParams}
use Rattle.c65_meaning.specs.Shapes.{bare_type, types_of}
use Rattle.c65_meaning.specs.Calls.{is_variadic, passed_to, fit, agree, accepts, fit_definition}
use Rattle.c65_genframe.specs.Frames.{has_prototype}
use Rattle.c65_gen_law_stack.specs.Parameters.{AreArguments, AreTaken}
use Rattle.c65_agree_invoke.specs.Accepted.{IsDeclared}
use Rattle.c65_agree_slots.proofs.Accepted.{argument_of, taken_known, passed_same}
use Rattle.c65_agree_variadic_function.specs.Arguments.{named_of, further_of, AreTakenFurther, AcceptedFurtherArgumentsAreTaken}

-- ---- the two parts of a list

named_typed : (u : UnitTy) (is : List ℕ) (es : Nodes) → AreTyped u es → AreTyped u (named_of is es)
named_typed u [] es typed = tt
named_typed u (i ∷ is) none typed = tt
named_typed u (i ∷ is) (some e es) typed = (typed.0, named_typed u is es typed.1)

all_arguments : (u : UnitTy) (es : Nodes) → AreTyped u es → AreArguments u es
all_arguments u none typed = tt
all_arguments u (some e es) typed = (argument_of u e typed.0, all_arguments u es typed.1)

further_typed : (u : UnitTy) (is : List ℕ) (es : Nodes) → AreTyped u es → AreArguments u (further_of is es)
further_typed u [] es typed = all_arguments u es typed
further_typed u (i ∷ is) none typed = tt
further_typed u (i ∷ is) (some e es) typed = further_typed u is es typed.1

-- the first ones fit the prototype alone
named_fits : (u : UnitTy) (qs : QTys) (is : List ℕ) (es : Nodes) → AreParams u qs is → fit u.types (types_of es) true qs ≡ true → fit u.types (types_of (named_of is es)) false qs ≡ true
named_fits u end [] es match fits = refl
named_fits u end (i ∷ is) es match fits = absurd match
named_fits u (more q qs) [] es match fits = absurd match
named_fits u (more q qs) (i ∷ is) none match fits = absurd cc
named_fits u (more q qs) (i ∷ is) (some e es) match fits =
    let both = and_parts (are_compatible u.types (plain (bare_type e)) (plain (type_in q))) (fit u.types (types_of es) true qs) fits in
    ap (λ b. b && fit u.types (types_of (named_of is es)) false qs) both.0 ∙ named_fits u qs is es match.4 both.1

taken_by : (u : UnitTy) (g : FuncTy) (es : Nodes) (t : Fn) → g.ty ≡ t → AreTyped u es → All (IsParam u) g.params → MatchParams u t g.params → IsDeclared t → is_variadic t ≡ true → fit_definition u (types_of es) g.params t ≡ true → AreTakenFurther u g es
taken_by u g es (fn q unknown v c) e typed params match declared too fits = let clash : true ≡ false = sym too ∙ declared in absurd (cc)
taken_by u g es (fn q (known ps) false c) e typed params match declared too fits = absurd (cc)
taken_by u g es (fn q (known ps) true c) e typed params match declared too fits = record {
  named = subst (λ b. AreTaken u b (named_of g.params es) g.params) (sym (ap has_prototype e)) (taken_known u ps (named_of g.params es) g.params (named_typed u g.params es typed) params match (named_fits u ps g.params es match fits));
  further = further_typed u g.params es typed;
}

pub accepted_further_arguments_are_taken : AcceptedFurtherArgumentsAreTaken
accepted_further_arguments_are_taken u t f es g body call typed well declared too accepted =
    let type : type_in f ≡ pointer (plain (function call.callee)) = ap type_in call.named in
    let mine : accepts u (pointer (plain (function call.callee))) (types_of es) g ≡ true = ap (λ (x : Ty). accepts u x (types_of es) g) (sym type) ∙ accepted in
    let fits : fit_definition u (passed_to (Some call.callee) (types_of es)) g.params g.ty ≡ true = (and_parts (agree u (Some call.callee) g.ty) (fit_definition u (passed_to (Some call.callee) (types_of es)) g.params g.ty) mine).1 in
    let same : fit_definition u (types_of es) g.params g.ty ≡ true = ap (λ (ts : List Ty). fit_definition u ts g.params g.ty) (sym (passed_same u call.callee es call.given)) ∙ fits in
    taken_by u g es g.ty refl typed well.params well.prototype declared too same
