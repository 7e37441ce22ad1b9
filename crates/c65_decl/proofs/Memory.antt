-- Want of memory refuses any reading.
use Rattle.std.proofs.Common.{◌≡◌, sym, subst}
use Rattle.std.specs.Prelude.{Result}
use Rattle.c65_base.specs.Answers.{Fault, Fails}
use Rattle.c65_base.specs.declared.refusal.Refusal.{Refusal}
use Rattle.c65_base.specs.declared.refusal.Refusal.TheVariants.{OutOfMemory}

pub memory_fails : {Y : Type 0} (e : Refusal) (y : Result Y Fault) → e ≡ OutOfMemory → Fails e y
memory_fails e y h = subst (λ (x : Refusal). Fails x y) (sym h) tt
