-- What a call answers beside a definition's value, up to want of memory.
use Rattle.std.specs.Prelude.{◌≡◌, ℕ, Result, Ok, Err}
use Rattle.c65_base.specs.declared.code.Code.{Code}
use Rattle.c65_base.specs.declared.refusal.Pos.{Pos}
use Rattle.c65_base.specs.declared.refusal.Size.{Size}
use Rattle.c65_base.specs.declared.refusal.Refusal.{Refusal}
use Rattle.c65_base.specs.declared.refusal.Refusal.TheVariants as refusals

-- the first fault of a source text: a code at a place, or a quantity above its limit
pub data Fault : Type 0 where
  at : Code → Pos → Fault
  large : Size → ℕ → Fault

infixl 10 ◌>>=◌
abbrev pub ◌>>=◌ : {A B : Type 0} → Result A Fault → (A → Result B Fault) → Result B Fault
(Ok x) >>= f = f x
(Err e) >>= f = Err e

-- the refusal is the definition's fault, or want of memory
abbrev pub Fails : {Y : Type 0} → Refusal → Result Y Fault → Type 0
Fails refusals.OutOfMemory y = Unit {0}
Fails (refusals.At code pos) y = y ≡ Err (at code pos)
Fails (refusals.TooLarge limit value) y = y ≡ Err (large limit value)
Fails _ y = ⊥

-- what was answered, seen by view, is what the definition gives, unless memory ran out
abbrev pub Gives : {X Y : Type 0} → (X → Y) → Result X Refusal → Result Y Fault → Type 0
Gives view (Ok x) y = y ≡ Ok (view x)
Gives view (Err e) y = Fails e y
