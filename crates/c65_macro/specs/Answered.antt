-- What a call answers beside an outcome of the definition, up to want of memory.
use Rattle.std.specs.Prelude.{◌≡◌, ℕ, List, Result, Ok, Err}
use Rattle.c65_base.specs.declared.refusal.Refusal.{Refusal}
use Rattle.c65_base.specs.declared.refusal.Refusal.TheVariants as refusals
use Rattle.c65_base.specs.Answers.{at, large}
use Rattle.c65_macro.specs.Items.{Outcome, faulty, done}

-- the refusal is the outcome's fault, or want of memory
abbrev pub Stops : {A : Type 0} → Refusal → Outcome A → Type 0
Stops refusals.OutOfMemory y = Unit {0}
Stops (refusals.At code pos) y = y ≡ faulty (at code pos)
Stops (refusals.TooLarge limit value) y = y ≡ faulty (large limit value)
Stops _ y = ⊥

-- what was answered, seen by view, is the outcome with these spellings, unless memory ran out
abbrev pub Gives : {X A : Type 0} → (X → A) → Result X Refusal → List (List ℕ) → Outcome A → Type 0
Gives view (Ok x) names y = y ≡ done names (view x)
Gives view (Err e) names y = Stops e y
