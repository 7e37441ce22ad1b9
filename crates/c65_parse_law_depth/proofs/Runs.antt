-- A greater limit changes nothing in a run but that it is too deep.
use Rattle.std.proofs.Common.{◌≡◌, ℕ, ◌≤◌, ◌⊎◌, inl, inr, List, [], ◌∷◌, refl, ap, subst}
use Rattle.std.specs.Prelude.{Ok, Err}
use Rattle.c65_base.specs.Answers.{large}
use Rattle.c65_base.specs.declared.refusal.Size.TheVariants.{Depth}
use Rattle.c65_scan.specs.declared.token.Token.{Token}
use Rattle.c65_parse_names.specs.Scopes.{Blocks}
use Rattle.c65_parse.specs.Frames.{Frame, Held, Next, go, stop, deep, fail}
use Rattle.c65_parse.specs.Machine.{step, changed, Reading, run, fault_at}
use Rattle.c65_parse_law_depth.specs.Grows.{Grows}
use Rattle.c65_parse_law_depth.proofs.Steps.{step_grows}

-- the run behind what a token does
abbrev pub run_behind : (limit : ℕ) → ℕ → Blocks → Token → List Token → Next → Reading
run_behind limit least scope tok tokens n = elim n as (λ _. Reading) [ go gs next change ↦ run limit least (changed change scope) gs next tokens | stop done ↦ Ok (done, tok ∷ tokens, scope) | deep ↦ Err (large Depth 257) | fail ↦ Err (fault_at tok) ]

behind_grows : (limit more least : ℕ) (scope : Blocks) (tok : Token) (tokens : List Token) → ((scope : Blocks) (fs : List Frame) (held : Held) → Grows (run limit least scope fs held tokens) (run more least scope fs held tokens)) → (n : Next) → Grows (run_behind limit least scope tok tokens n) (run_behind more least scope tok tokens n)
behind_grows limit more least scope tok tokens f (go fs held change) = f (changed change scope) fs held
behind_grows limit more least scope tok tokens f (stop done) = inr refl
behind_grows limit more least scope tok tokens f deep = inl refl
behind_grows limit more least scope tok tokens f fail = inr refl

both_grow : (limit more least : ℕ) (scope : Blocks) (tok : Token) (tokens : List Token) (n m : Next) → (n ≡ deep) ⊎ (n ≡ m) → Grows (run_behind limit least scope tok tokens n) (run_behind more least scope tok tokens n) → Grows (run_behind limit least scope tok tokens n) (run_behind more least scope tok tokens m)
both_grow limit more least scope tok tokens n m (inl low) h = inl (ap (run_behind limit least scope tok tokens) low)
both_grow limit more least scope tok tokens n m (inr same) h = subst (λ k. Grows (run_behind limit least scope tok tokens n) (run_behind more least scope tok tokens k)) same h

pub run_grows : (limit more : ℕ) → limit ≤ more → (least : ℕ) (tokens : List Token) (scope : Blocks) (fs : List Frame) (held : Held) → Grows (run limit least scope fs held tokens) (run more least scope fs held tokens)
run_grows limit more fits least [] scope fs held = inr refl
run_grows limit more fits least (tok ∷ tokens) scope fs held = both_grow limit more least scope tok tokens (step limit least scope fs held tok) (step more least scope fs held tok) (step_grows limit more fits least scope fs held tok)
    (behind_grows limit more least scope tok tokens (run_grows limit more fits least tokens) (step limit least scope fs held tok))
