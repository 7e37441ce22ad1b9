-- Rows of the runtime's table at given numbers.
use Rattle.std.specs.Prelude.{◌≡◌, ℕ}
use Rattle.c65_code.specs.declared.routine.Width.{Width}
use Rattle.c65_code.specs.declared.routine.TosOp.{TosOp}
use Rattle.c65_code.specs.declared.routine.Routine.TheVariants.{Tos}
use Rattle.c65_code.specs.Numbers.{result_width}
use Rattle.c65_code.specs.LineState.{State, sp_of}
use Rattle.c65_code.specs.Rows.{number_at, primary_of, row_of}
use Rattle.c65_code.specs.Moves.{MeetsRow}

-- after the operator, from one number on the software stack and one in the primary register, that register has the result
abbrev pub GivesResult : TosOp → Width → ℕ → ℕ → ℕ → Type 0
GivesResult op width a b result = (t u : State)
    → number_at width t.mem (sp_of t) ≡ a → primary_of width t ≡ b
    → MeetsRow (row_of (Tos op width) t) t u
    → primary_of (result_width op width) u ≡ result
