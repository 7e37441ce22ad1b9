-- Compatible types of functions are of one convention.
use Rattle.std.proofs.Common.{◌≡◌, ℕ, Bool, true, false, [], Option, Some, None, refl, sym, ◌∙◌}
use Rattle.std.specs.Prelude.{◌^◌, ◌&&◌, not, if◌then◌else◌, option_and_then}
use Rattle.c65_ctype.specs.Trees.{Fn, fn, Params, unknown, known, QTy}
use Rattle.c65_ctype.specs.Compatible.{Pairs, same_bool, qualified_meet, params_meet, lists_meet, functions_meet, each_in, agrees}
use Rattle.c65_meaning.specs.Calls.{passed_to, fit_definition, agree}
use Rattle.c65_genframe.specs.Frames.{is_variadic, takes_stack}
use Rattle.c65_agree_invoke.specs.Accepted.{IsDeclared, AcceptedCallsAgree}

-- both are of one convention
abbrev AreAlike : Fn → Fn → Type 0
AreAlike f g = (not (takes_stack f) ≡ not (takes_stack g)) × (is_variadic f ≡ is_variadic g)

same_by : (a b : Bool) → same_bool a b ≡ true → a ≡ b
same_by true b e = sym e
same_by false true e = let clash : false ≡ true = e in cc
same_by false false e = refl

first_true : (a b : Bool) → (a && b) ≡ true → a ≡ true
first_true true b e = refl
first_true false b e = e

module _ (test : ℕ × ℕ → Bool) where
  params_alike : (given : Pairs) (q r : QTy) (xs ys : Params) (va vb cd ce : Bool) → IsDeclared (fn q xs va cd) → IsDeclared (fn r ys vb ce) → each_in test (params_meet given xs va ys vb) ≡ true → va ≡ vb
  params_alike given q r unknown unknown va vb cd ce f g e = f ∙ sym g
  params_alike given q r unknown (known ys) va true cd ce f g e = let clash : false ≡ true = e in cc
  params_alike given q r unknown (known ys) va false cd ce f g e = f
  params_alike given q r (known xs) unknown true vb cd ce f g e = let clash : false ≡ true = e in cc
  params_alike given q r (known xs) unknown false vb cd ce f g e = sym g
  params_alike given q r (known xs) (known ys) va vb cd ce f g e = go (same_bool va vb) refl e
    where
      go : (b : Bool) → same_bool va vb ≡ b → each_in test (if b then lists_meet given xs ys else None) ≡ true → va ≡ vb
      go true same h = same_by va vb same
      go false same h = let clash : false ≡ true = h in cc

  functions_alike : (f g : Fn) → IsDeclared f → IsDeclared g → each_in test (functions_meet [] f g) ≡ true → AreAlike f g
  functions_alike (fn q xs va cd) (fn r ys vb ce) f g e = go (same_bool cd ce) refl e
    where
      meets : (o : Option Pairs) → each_in test (option_and_then (λ given. params_meet given xs va ys vb) o) ≡ true → va ≡ vb
      meets None h = let clash : false ≡ true = h in cc
      meets (Some given) h = params_alike given q r xs ys va vb cd ce f g h

      go : (b : Bool) → same_bool cd ce ≡ b → each_in test (if b then option_and_then (λ given. params_meet given xs va ys vb) (qualified_meet [] q r) else None) ≡ true → AreAlike (fn q xs va cd) (fn r ys vb ce)
      go true same h =
          let further : va ≡ vb = meets (qualified_meet [] q r) h in
          let stack : cd ≡ ce = same_by cd ce same in
          (rw (further, stack) refl, further)
      go false same h = let clash : false ≡ true = h in cc

pub accepted_calls_agree : AcceptedCallsAgree
accepted_calls_agree u f c v args g plain declared accepted =
    functions_alike (agrees u.types (2 ^ 64)) f g.ty plain declared (first_true (agree u (Some f) g.ty) (fit_definition u (passed_to (Some f) args) g.params g.ty) accepted)
