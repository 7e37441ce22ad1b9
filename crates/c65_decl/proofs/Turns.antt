-- One turn of a reading that goes on as often as a unit has tokens.
use Rattle.std.proofs.Common.{◌≡◌, ℕ, ◌+◌, ◌<◌, List, ◌∷◌, length, drop, get_or, add-one, refl, sym, ap, ◌∙◌, subst}
use Rattle.std.specs.Prelude.{Result, Ok}
use Rattle.std.proofs.Math.Seq.{drop-cons}
use Rattle.c65_base.specs.Answers.{Fault, Fails, ◌>>=◌}
use Rattle.c65_base.specs.declared.refusal.Refusal.{Refusal}
use Rattle.c65_scan.specs.declared.token.Token.{Token}
use Rattle.c65_parse.specs.Reading.{no_token}
use Rattle.c65_parse.proofs.Answering.{refused_first}

next_of : (us : List Token) (i : ℕ) → i < length us → drop i us ≡ get_or us i no_token ∷ drop (i + 1) us
next_of us i h = rw (add-one, drop-cons us i no_token) refl

turned : {A B : Type 0} (run : List Token → Result A Fault) (r : Result B Fault) (next : List Token → B → Result A Fault) (us : List Token) (i : ℕ) (whole : Result A Fault)
    → ((u : Token) (rest : List Token) → run (u ∷ rest) ≡ (r >>= next rest)) → i < length us → run (drop i us) ≡ whole → (r >>= next (drop (i + 1) us)) ≡ whole
turned run r next us i whole one h so_far = sym (one (get_or us i no_token) (drop (i + 1) us)) ∙ ap run (sym (next_of us i h)) ∙ so_far

-- what one step read goes on to the whole
pub turn : {A B : Type 0} (run : List Token → Result A Fault) (r : Result B Fault) (next : List Token → B → Result A Fault) (us : List Token) (i : ℕ) (whole : Result A Fault) (x : B)
    → ((u : Token) (rest : List Token) → run (u ∷ rest) ≡ (r >>= next rest)) → i < length us → run (drop i us) ≡ whole → r ≡ Ok x → next (drop (i + 1) us) x ≡ whole
turn run r next us i whole x one h so_far is = sym (ap (λ y. y >>= next (drop (i + 1) us)) is) ∙ turned run r next us i whole one h so_far

-- what refuses one step refuses the whole
pub refused : {A B : Type 0} (run : List Token → Result A Fault) (r : Result B Fault) (next : List Token → B → Result A Fault) (us : List Token) (i : ℕ) (whole : Result A Fault) (e : Refusal)
    → ((u : Token) (rest : List Token) → run (u ∷ rest) ≡ (r >>= next rest)) → i < length us → run (drop i us) ≡ whole → Fails e r → Fails e whole
refused {A} {B} run r next us i whole e one h so_far fails = subst (λ (y : Result A Fault). Fails e y) (turned run r next us i whole one h so_far) (refused_first e r (next (drop (i + 1) us)) fails)
