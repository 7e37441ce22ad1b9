-- What a call answers, where the mirror gives the tree that stands there.
use Rattle.std.proofs.Common.{◌≡◌, List, ap, ◌∙◌, subst}
use Rattle.std.specs.Prelude.{Result, Ok}
use Rattle.c65_base.specs.Answers.{Fault, Gives}
use Rattle.c65_base.specs.declared.refusal.Refusal.{Refusal}
use Rattle.c65_scan.specs.declared.token.Token.{Token}

-- of tokens that begin so
pub accepted : {X Y : Type 0} (view : X → Y) (r : Result X Refusal) (read : List Token → Result Y Fault) (ts us : List Token) (v : Y) → Gives view r (read ts) → ts ≡ us → read us ≡ Ok v → Gives view r (Ok v)
accepted view r read ts us v h e k = subst (Gives view r) (ap read e ∙ k) h
