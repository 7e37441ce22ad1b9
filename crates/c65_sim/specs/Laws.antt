-- That a run in several calls is the run in one.
use Rattle.std.specs.Prelude.{◌≡◌, ℕ, ◌+◌, List, ◌++◌}
use Rattle.c65_mach.specs.State.{State}
use Rattle.c65_mach.specs.Run.{Setting, Moment, Progress, Running, Ended, Stopped, onward}
use Rattle.c65_sim.specs.Budgets.{start_of}

-- what was written earlier stands before the output
abbrev pub behind : List ℕ → Progress → Progress
behind earlier (Running now) = Running (record now { output = earlier ++ now.output })
behind earlier (Ended now status) = Ended (record now { output = earlier ++ now.output }) status
behind earlier (Stopped now) = Stopped (record now { output = earlier ++ now.output })

-- Rows on from the moment at which a first call stands, over the input that is left, are rows of the one run, and their
-- output stands behind that of the first call.
abbrev pub TwoRunsAreOne : Type 0
TwoRunsAreOne = (setting : Setting) (first more : ℕ) (m : State) (given : List ℕ) (now : Moment)
    → onward setting first (start_of m given) ≡ Running now
    → onward setting (first + more) (start_of m given) ≡ behind now.output (onward setting more (start_of now.machine now.input))
