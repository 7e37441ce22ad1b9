-- What goes on is at the front of the tokens that are read.
use Rattle.std.proofs.Common.{◌≡◌, ℕ, List, [], ◌∷◌, ◌++◌, sym, ◌∙◌, append_assoc}
use Rattle.std.specs.Prelude.{Ok, Err}
use Rattle.c65_scan.specs.declared.token.Token.{Token}
use Rattle.c65_parse.specs.Reading.{Answer}
use Rattle.c65_parse_law_faults.proofs.Local.{Reader, Triple}
use Rattle.c65_parse_law_exact.proofs.Stops.{Going, Taking, StopIs, Stop}

-- tokens at the front of others
abbrev pub IsFront : List Token → List Token → Type 0
IsFront ts xs = (others : List Token) × (ts ≡ xs ++ others)

by_fronts : {A : Type 0} (limit c m k : ℕ) (goes : Going) (takes : Taking A) (read : Reader (Triple A)) (ts : List Token) (r : Answer A) → StopIs limit c m k goes takes read ts r → StopIs limit c m k (λ n xs. goes n xs × IsFront ts xs) takes read ts r
by_fronts limit c m k goes takes read ts (Ok (a, rest, scope)) h = h
by_fronts limit c m k goes takes read ts (Err e) h = record {
  failed = h.failed;
  goes_on = (h.goes_on, (h.failed.next ∷ h.failed.others, h.failed.tokens_are));
  deeper = λ x. let d = h.deeper x in (d.0, d.1, (d.2, (h.failed.others, h.failed.tokens_are ∙ sym (append_assoc h.failed.before (h.failed.next ∷ []) h.failed.others))));
}

-- what goes on is at the front of the tokens that are read
pub stop_fronts : {A : Type 0} (limit c m k : ℕ) (goes : Going) (takes : Taking A) (read : Reader (Triple A)) (unit us ts : List Token) → Stop limit c m k goes takes read unit us ts → Stop limit c m k (λ n xs. goes n xs × IsFront ts xs) takes read unit us ts
stop_fronts limit c m k goes takes read unit us ts h = by_fronts limit c m k goes takes read ts (read unit us ts) h
