-- What a call answers, where the mirror's answer is known.
use Rattle.std.proofs.Common.{◌≡◌}
use Rattle.std.specs.Prelude.{Result, Ok, Err, IfOk}
use Rattle.c65_base.specs.Answers.{Fault, Gives}
use Rattle.c65_base.specs.declared.refusal.Refusal.{Refusal}

pub if_gives : {X Y : Type 0} (view : X → Y) (P : X → Type 0) (r : Result X Refusal) (y : Result Y Fault) → Gives view r y → ((x : X) → y ≡ Ok (view x) → P x) → IfOk r P
if_gives view P (Ok x) y h f = f x h
if_gives view P (Err e) y h f = tt
