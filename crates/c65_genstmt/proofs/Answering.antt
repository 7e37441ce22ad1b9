-- Answers one after another.
use Rattle.std.proofs.Common.{◌≡◌, Result, Ok, sym, ap, subst}
use Rattle.c65_base.specs.declared.refusal.Refusal.{Refusal}
use Rattle.c65_base.specs.declared.refusal.Refusal.TheVariants as refusals
use Rattle.c65_base.specs.Answers.{Fault, Fails, ◌>>=◌}

pub memory_fails : {Y : Type 0} (e : Refusal) (y : Result Y Fault) → e ≡ refusals.OutOfMemory → Fails e y
memory_fails e y h = subst (λ (x : Refusal). Fails x y) (sym h) tt

-- what the first refuses, both refuse
pub fails_before : {A B : Type 0} (e : Refusal) (y : Result A Fault) (f : A → Result B Fault) → Fails e y → Fails e (y >>= f)
fails_before {A = A} refusals.OutOfMemory y f h = tt
fails_before {A = A} (refusals.At code pos) y f h = ap (λ (r : Result A Fault). r >>= f) h
fails_before {A = A} (refusals.TooLarge limit value) y f h = ap (λ (r : Result A Fault). r >>= f) h
fails_before {A = A} _ y f h = elim h [ ]

pub goes_on : {A B : Type 0} (y : Result A Fault) (x : A) (f : A → Result B Fault) → y ≡ Ok x → y >>= f ≡ f x
goes_on {A = A} y x f h = ap (λ (r : Result A Fault). r >>= f) h
