-- When a row may be done: budgets, the guard of the hardware stack, and the count of rows.
use Rattle.std.specs.Prelude.{◌≡◌, ℕ, ◌+◌, ◌-◌, ◌^◌, ◌<◌, Bool, false, ◌&&◌, List, [], Option, Some, None, if◌then◌else◌, nat_lt}
use Rattle.c65_mach.specs.declared.rows.Row.{Row}
use Rattle.c65_mach.specs.State.{State}
use Rattle.c65_mach.specs.Step.{row_at, pushes}
use Rattle.c65_mach.specs.Run.{Setting, Progress, Running, moment_of, onward, cycles_after, is_hook}
use Rattle.c65_sim.specs.declared.run.Budget.{Budget}
use Rattle.c65_sim.specs.declared.run.Budget.TheVariants.{Instructions, Cycles}

-- the number of a budget
abbrev pub number_of : Budget → ℕ
number_of (Instructions n) = n
number_of (Cycles n) = n

-- what a row of so many cycles costs of a budget
abbrev pub price_of : Budget → ℕ → ℕ
price_of (Instructions n) cycles = 1
price_of (Cycles n) cycles = cycles

-- what so many rows from here spend of a budget: one for each row, or the row's cycles
abbrev pub spent_after : Setting → Budget → ℕ → Progress → ℕ
spent_after setting (Instructions n) rows start = rows
spent_after setting (Cycles n) rows start = cycles_after setting rows start

abbrev pub row_pushes : Option Row → ℕ
row_pushes None = 0
row_pushes (Some row) = pushes row.op

-- The next row would push a byte while S is 0. The pushes of a row are followed one by one, and each lowers S by one:
-- a row that pushes two bytes would do so at S = 1 too.
abbrev pub is_too_deep : State → Bool
is_too_deep m = if is_hook m.pc then false else nat_lt m.s (row_pushes (row_at m))

-- a run from this machine, over this input
abbrev pub start_of : State → List ℕ → Progress
start_of m given = Running (record { machine = m; input = given; output = [] })

-- After so many rows the next one may be done: the budget is not used up, the run's count is below the greatest u64, and
-- the guard does not refuse the row.
pub record IsFree (setting : Setting) (budget : Budget) (guard : Bool) (count rows : ℕ) (start : Progress) : Type 0 where
  pub budgeted : spent_after setting budget rows start < number_of budget
  pub counted : count + rows < 2 ^ 64 - 1
  pub guarded : (guard && is_too_deep (moment_of (onward setting rows start)).machine) ≡ false
