-- Why a run has no meaning from some moment on, and how what fails stops what would follow.
use Rattle.std.specs.Prelude.{Result, Ok, Err, Option, Some, None}
use Rattle.c65_meaning.specs.declared.action.Action.{Action}

-- an undefined action; or trees or values that do not fit one another, as where an object is named outside its block
pub data Why : Type 0 where
  By : (action : Action) → Why
  Unfit : Why

infixl 10 ◌>>=◌
abbrev pub ◌>>=◌ : {A B : Type 0} → Result A Why → (A → Result B Why) → Result B Why
(Ok x) >>= f = f x
(Err why) >>= f = Err why

-- a value that may be missing, and then why
abbrev pub or_by : {A : Type 0} → Action → Option A → Result A Why
or_by action (Some x) = Ok x
or_by action None = Err (By action)
