-- Laws of runs: going on, and last states.
use Rattle.std.proofs.Common.{◌≡◌, ℕ, zero, suc, ◌+◌, refl, ap, ◌∙◌, arith}
use Rattle.c65_meaning.specs.Program.{ProgramTy}
use Rattle.c65_meaning.specs.State.{State, Undefined, Deep, Ended, Running}
use Rattle.c65_meaning.specs.Step.{step, steps}
use Rattle.c65_meaning.specs.Start.{start}
use Rattle.c65_meaning.specs.Laws.{IsLast, RunsGoOn, LastStays}

module _ (p : ProgramTy) where
  steps_add : (n m : ℕ) (s : State) → steps p (n + m) s ≡ steps p m (steps p n s)
  steps_add zero m s = let e : 0 + m ≡ m = omega arith in ap (λ k. steps p k s) e
  steps_add (suc n) m s = let e : suc n + m ≡ suc (n + m) = omega arith in ap (λ k. steps p k s) e ∙ steps_add n m (step p s)

  pub last_stays : (s : State) (n : ℕ) → IsLast s → steps p n s ≡ s
  last_stays s zero h = refl
  last_stays (Undefined why) (suc n) h = last_stays (Undefined why) n h
  last_stays Deep (suc n) h = last_stays Deep n h
  last_stays (Ended out status turns) (suc n) h = last_stays (Ended out status turns) n h
  last_stays (Running work values at) (suc n) h = absurd h

pub runs_go_on : RunsGoOn
runs_go_on p args input n m = steps_add p n m (start p args input)

pub a_last_stays : LastStays
a_last_stays p s n h = last_stays p s n h
