-- A walk over a list from its first item on: where it goes on, and where its first fault is.
use Rattle.std.proofs.Common.{◌≡◌, ℕ, ◌+◌, ◌<◌, ◌≤◌, List, [], ◌∷◌, length, drop, get_or, refl, sym, ap, ◌∙◌, subst, Ok}
use Rattle.std.specs.Prelude.{Result}
use Rattle.std.proofs.lemmas.List.{drop_more, drop_all}
use Rattle.c65_base.specs.declared.refusal.Refusal.{Refusal}
use Rattle.c65_base.specs.Answers.{Fault, Fails, ◌>>=◌}
use Rattle.c65_elab.proofs.Walks.{fails_bind, then_ok}

-- the walk of a list is a step for its first item, and then that of the others
pub record Steps {A S : Type 0} (walk : List A → S → Result S Fault) (step : A → S → Result S Fault) : Type 0 where
  pub first : (x : A) (xs : List A) (s : S) → walk (x ∷ xs) s ≡ (step x s >>= walk xs)
  pub none : (s : S) → walk [] s ≡ Ok s

behind : {A : Type 0} (xs : List A) (i : ℕ) (x : A) → i < length xs → x ≡ get_or xs i x → drop i xs ≡ x ∷ drop (i + 1) xs
behind xs i x h is = drop_more xs i x h ∙ ap (λ y. y ∷ drop (i + 1) xs) (sym is)

pub goes_on : {A S : Type 0} (walk : List A → S → Result S Fault) (step : A → S → Result S Fault) (steps : Steps walk step) (xs : List A) (i : ℕ) (x : A) (s u : S) → i < length xs → x ≡ get_or xs i x → step x s ≡ Ok u → walk (drop i xs) s ≡ walk (drop (i + 1) xs) u
goes_on walk step steps xs i x s u h is done =
    ap (λ ys. walk ys s) (behind xs i x h is) ∙ steps.first x (drop (i + 1) xs) s ∙ then_ok (step x s) u (walk (drop (i + 1) xs)) (walk (drop (i + 1) xs) u) done refl

-- what is left gives what the whole gives, one item further
pub kept : {A S : Type 0} (walk : List A → S → Result S Fault) (step : A → S → Result S Fault) (steps : Steps walk step) (xs : List A) (i : ℕ) (x : A) (s u : S) (all : Result S Fault) → i < length xs → x ≡ get_or xs i x → step x s ≡ Ok u → walk (drop i xs) s ≡ all → walk (drop (i + 1) xs) u ≡ all
kept walk step steps xs i x s u all h is done so_far = sym (goes_on walk step steps xs i x s u h is done) ∙ so_far

pub stopped : {A S : Type 0} (walk : List A → S → Result S Fault) (step : A → S → Result S Fault) (steps : Steps walk step) (e : Refusal) (xs : List A) (i : ℕ) (x : A) (s : S) (all : Result S Fault) → i < length xs → x ≡ get_or xs i x → Fails e (step x s) → walk (drop i xs) s ≡ all → Fails e all
stopped walk step steps e xs i x s all h is fault so_far =
    subst (Fails e) (sym (ap (λ ys. walk ys s) (behind xs i x h is) ∙ steps.first x (drop (i + 1) xs) s) ∙ so_far) (fails_bind e (step x s) (walk (drop (i + 1) xs)) fault)

pub ended : {A S : Type 0} (walk : List A → S → Result S Fault) (step : A → S → Result S Fault) (steps : Steps walk step) (xs : List A) (i : ℕ) (s : S) (all : Result S Fault) → length xs ≤ i → walk (drop i xs) s ≡ all → all ≡ Ok s
ended walk step steps xs i s all h so_far = sym so_far ∙ ap (λ ys. walk ys s) (drop_all i xs h) ∙ steps.none s
