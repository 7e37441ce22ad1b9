-- The functions that the rounds of marks find.
use Rattle.std.specs.Prelude.{◌≡◌, ℕ, ◌<◌, ◌≤◌, ◌↔◌, true, Some, None, length}
use Rattle.c65_meaning.specs.Program.{ProgramTy}
use Rattle.c65_depth.specs.Reached.{reachable_at, cycle_at, numbers}
use Rattle.c65_depth.specs.Numbers.{standings_of, unbounded_of, certificate_of}
use Rattle.c65_depth.specs.Certificates.{IsReachable, Leads, IsUnbounded}

-- No way of calls needs to be longer than there are functions.
abbrev pub ReachedIsReachable : Type 0
ReachedIsReachable = (p : ProgramTy) (f : ℕ) → f < length p.unit.funcs → (reachable_at (standings_of p.unit p.main) f ≡ true) ↔ IsReachable p f

abbrev pub CyclesLeadBack : Type 0
CyclesLeadBack = (p : ProgramTy) (f : ℕ) → f < length p.unit.funcs → (cycle_at (standings_of p.unit p.main) f ≡ true) ↔ Leads p f f

-- can be called from `main`, and lies on a call cycle or calls through a pointer
pub record HasNoBound (p : ProgramTy) (f : ℕ) : Type 0 where
  pub reached : IsReachable p f
  pub unbounded : IsUnbounded p f

pub record IsFirstWithoutBound (p : ProgramTy) (f : ℕ) : Type 0 where
  pub itself : HasNoBound p f
  pub first : (h : ℕ) → h < f → HasNoBound p h → ⊥

abbrev pub UnboundedIsFirst : Type 0
UnboundedIsFirst = (p : ProgramTy) (f : ℕ) → unbounded_of p.unit p.main ≡ Some f → IsFirstWithoutBound p f

-- In a program whose functions all have numbers of 32 bits there is no certificate exactly where some function has no bound.
abbrev pub NoneWhereUnbounded : Type 0
NoneWhereUnbounded = (p : ProgramTy) → length p.unit.funcs ≤ numbers → (certificate_of p.unit p.main ≡ None) ↔ ((f : ℕ) × HasNoBound p f)
