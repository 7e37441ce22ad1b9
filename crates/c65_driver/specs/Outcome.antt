-- How a call of the tool ended, as a result and as a status.
use Rattle.std.specs.Prelude.{ℕ, Result, Ok, Err}
use Rattle.c65_base.specs.declared.refusal.Refusal.{Refusal}
use Rattle.c65_base.specs.Status.{status_of}
use Rattle.c65_driver.specs.declared.outcome.Outcome.{Outcome}
use Rattle.c65_driver.specs.declared.outcome.Outcome.TheVariants.{Done, Refused}

abbrev pub answer_of : Outcome → Result ℕ Refusal
answer_of (Done status) = Ok status
answer_of (Refused refusal) = Err refusal

abbrev pub code_of : Outcome → ℕ
code_of (Done status) = status
code_of (Refused refusal) = status_of refusal
