-- The free run beside the run, step by step.
use Rattle.std.proofs.Common.{◌≡◌, ◌+◌, inl, inr, ℕ, zero, suc, ◌≤◌, List, [], ◌∷◌, Option, Some, None, Bool, true, false, slice_get, refl, sym, ap, ◌∙◌, subst, arith}
use Rattle.std.specs.Prelude.{◌⊎◌}
use Rattle.c65_csem.specs.Trees.{Stmt, FuncTy, UnitTy}
use Rattle.c65_meaning.specs.Program.{ProgramTy}
use Rattle.c65_meaning.specs.Why.{By}
use Rattle.c65_meaning.specs.declared.action.Action.TheVariants.{OffsetOutside}
use Rattle.c65_meaning.specs.Items.{Item}
use Rattle.c65_meaning.specs.Store.{Value}
use Rattle.c65_meaning.specs.Costs.{bytes_of_objects, soft_cost, arguments_bytes}
use Rattle.c65_meaning.specs.State.{Scene, State, Undefined, Deep, Ended, Running}
use Rattle.c65_meaning.specs.Step.{is_deep, perform, step, steps}
use Rattle.c65_meaning.specs.Start.{objects_inside, first_scene, main_values, started, started_by, start_in}
use Rattle.c65_meaning.specs.Sem.{IsDeep, outcome_of}
use Rattle.c65_meaning_law_free.specs.Free.{free_state_at, freed_scene, freed, IsTooDeep, FreeIsNeverDeep, FreeIsTheSame, TooDeepIsDeep, FreeShowsTheSame}
use Rattle.c65_meaning_law_free.proofs.Scenes.{Room, least, not_deep, enough, has_enough, IsFree, Beside, if_beside}
use Rattle.c65_meaning_law_free.proofs.Calls.{entered_beside}
use Rattle.c65_meaning_law_free.proofs.Steps.{perform_beside}

-- ---- the call of main

started_beside : (u : UnitTy) (f : ℕ) (args : List (List ℕ)) (input : List ℕ) (g : FuncTy) (o : Option Stmt) → Beside least (started u false f args input g o) (started u true f args input g o)
started_beside u f args input g None = refl
started_beside u f args input g (Some body) = entered_beside u least f g body (soft_cost u (bytes_of_objects u g.params) body + arguments_bytes args) [] (main_values u args g.params) [] [] (first_scene u false g.params args input) refl

started_by_beside : (u : UnitTy) (f : ℕ) (args : List (List ℕ)) (input : List ℕ) (o : Option FuncTy) → Beside least (started_by u false f args input o) (started_by u true f args input o)
started_by_beside u f args input None = refl
started_by_beside u f args input (Some g) = started_beside u f args input g g.body

start_beside : (p : ProgramTy) (args : List (List ℕ)) (input : List ℕ) → Beside least (start_in false p args input) (start_in true p args input)
start_beside p args input = if_beside least (objects_inside p.unit p.unit.objects) _ (Undefined (By OffsetOutside)) _ _ (started_by_beside p.unit p.main args input (slice_get p.unit.funcs p.main)) refl

-- ---- a free run

is_free : (room : Room) (s t : State) → Beside room s t → IsFree t
is_free room (Undefined why) t h = subst IsFree (sym h) tt
is_free room Deep t h = h.1
is_free room (Ended out status turns) t h = subst IsFree (sym h) tt
is_free room (Running work values c) t h = subst IsFree (sym h.0) refl

module _ (p : ProgramTy) where
  performs_free : (i : Item) (k : List Item) (vs : List Value) (c : Scene) → c.free ≡ true → IsFree (perform p i k vs c)
  performs_free i k vs c e =
      let checked : Scene = record c { free = false } in
      let same : freed_scene checked ≡ c = ap (λ (b : Bool). record c { free = b }) (sym e) in
      subst (λ (d : Scene). IsFree (perform p i k vs d)) same (is_free (enough checked) (perform p i k vs checked) (perform p i k vs (freed_scene checked)) (perform_beside p (enough checked) i k vs checked (has_enough checked refl)))

  step_free : (t : State) → IsFree t → IsFree (step p t)
  step_free (Undefined why) h = tt
  step_free Deep h = absurd h
  step_free (Ended out status turns) h = tt
  step_free (Running [] vs c) h = tt
  step_free (Running (i ∷ k) vs c) h = performs_free i k vs c h

  stays_free : (n : ℕ) (t : State) → IsFree t → IsFree (steps p n t)
  stays_free zero t h = h
  stays_free (suc n) t h = stays_free n (step p t) (step_free t h)

  -- ---- both runs

  -- where the free run's state is too deep, the run has ended so
  before_deep : (s t : State) → Beside least s t → (s ≡ Deep) ⊎ (IsTooDeep t → ⊥)
  before_deep (Undefined why) t h = inr (λ d. subst IsTooDeep h d)
  before_deep Deep t h = inl refl
  before_deep (Ended out status turns) t h = inr (λ d. subst IsTooDeep h d)
  before_deep (Running work values c) t h = inr (λ d. let deep : is_deep c.frames ≡ true = subst IsTooDeep h.0 d in let shallow : is_deep c.frames ≡ false = not_deep c h.1 in absurd cc)

  step_beside : (s t : State) → Beside least s t → (IsTooDeep t → ⊥) → Beside least (step p s) (step p t)
  step_beside (Undefined why) t h none = ap (step p) h
  step_beside Deep t h none = absurd (none h.0)
  step_beside (Ended out status turns) t h none = ap (step p) h
  step_beside (Running [] vs c) t h none = ap (step p) h.0
  step_beside (Running (i ∷ k) vs c) t h none = subst (λ (x : State). Beside least (perform p i k vs c) (step p x)) (sym h.0) (perform_beside p least i k vs c h.1)

  same_now : (s t : State) → Beside least s t → (IsTooDeep t → ⊥) → t ≡ freed s
  same_now (Undefined why) t h none = h
  same_now Deep t h none = absurd (none h.0)
  same_now (Ended out status turns) t h none = h
  same_now (Running work values c) t h none = h.0

  same_on : (n : ℕ) (s t : State) → Beside least s t → ((m : ℕ) → m ≤ n → IsTooDeep (steps p m t) → ⊥) → steps p n t ≡ freed (steps p n s)
  same_on zero s t h none = same_now s t h (none 0 (omega arith))
  same_on (suc n) s t h none = same_on n (step p s) (step p t) (step_beside s t h (none 0 (omega arith))) (λ m few d. none (suc m) (omega (arith, few)) d)

  deep_stays : (n : ℕ) (s : State) → s ≡ Deep → steps p n s ≡ Deep
  deep_stays zero s e = e
  deep_stays (suc n) s e = deep_stays n (step p s) (ap (step p) e)

  deep_on : (n m : ℕ) (s t : State) → Beside least s t → m ≤ n → IsTooDeep (steps p m t) → steps p n s ≡ Deep
  deep_on n zero s t h few d = one (before_deep s t h)
    where
      one : (s ≡ Deep) ⊎ (IsTooDeep t → ⊥) → steps p n s ≡ Deep
      one (inl e) = deep_stays n s e
      one (inr none) = absurd (none d)
  deep_on zero (suc m) s t h few d = absurd (omega (arith, few))
  deep_on (suc n) (suc m) s t h few d = one (before_deep s t h) (λ none. deep_on n m (step p s) (step p t) (step_beside s t h none) (omega (arith, few)) d)
    where
      one : (s ≡ Deep) ⊎ (IsTooDeep t → ⊥) → ((IsTooDeep t → ⊥) → steps p (suc n) s ≡ Deep) → steps p (suc n) s ≡ Deep
      one (inl e) later = deep_stays (suc n) s e
      one (inr none) later = later none

-- ---- the laws

shows_not_deep : (t : State) → IsFree t → outcome_of t ≡ IsDeep → ⊥
shows_not_deep (Undefined why) h e = absurd cc
shows_not_deep Deep h e = h
shows_not_deep (Ended out status turns) h e = absurd cc
shows_not_deep (Running work values c) h e = absurd cc

pub free_is_never_deep : FreeIsNeverDeep
free_is_never_deep p args input n = shows_not_deep (free_state_at p args input n) (stays_free p n (start_in true p args input) (is_free least (start_in false p args input) (start_in true p args input) (start_beside p args input)))

pub free_is_the_same : FreeIsTheSame
free_is_the_same p args input n none = same_on p n (start_in false p args input) (start_in true p args input) (start_beside p args input) (λ m few d. none (record { moment = m; early = few; deep = d }))

pub too_deep_is_deep : TooDeepIsDeep
too_deep_is_deep p args input n was = ap outcome_of (deep_on p n was.moment (start_in false p args input) (start_in true p args input) (start_beside p args input) was.early was.deep)

shows_the_same : (s : State) → outcome_of (freed s) ≡ outcome_of s
shows_the_same (Undefined why) = refl
shows_the_same Deep = refl
shows_the_same (Ended out status turns) = refl
shows_the_same (Running work values c) = refl

pub free_shows_the_same : FreeShowsTheSame
free_shows_the_same p args input n shallow = ap outcome_of (free_is_the_same p args input n (λ was. shallow (too_deep_is_deep p args input n was))) ∙ shows_the_same (steps p n (start_in false p args input))
