-- One turn of a reading's loop.
use Rattle.std.proofs.Common.{◌≡◌, ℕ, zero, suc, ◌+◌, ◌<◌, ◌≤◌, List, [], ◌∷◌, length, drop, get_or, add-one, refl, sym, ap, ◌∙◌, subst, arith}
use Rattle.std.specs.Prelude.{Ok, Err}
use Rattle.std.proofs.Math.Seq.{drop-cons}
use Rattle.std.proofs.lemmas.List.{drop_all}
use Rattle.c65_base.specs.Answers.{large}
use Rattle.c65_base.specs.declared.refusal.Size.TheVariants.{Depth}
use Rattle.c65_scan.specs.declared.token.Token.{Token}
use Rattle.c65_parse_names.specs.Scopes.{Blocks}
use Rattle.c65_parse.specs.Frames.{Frame, Held, Next, go, stop, deep, fail}
use Rattle.c65_parse.specs.declared.frame.Step.{Step}
use Rattle.c65_parse.specs.Views.{next_of}
use Rattle.c65_parse.specs.Machine.{Reading, run, step, changed, fault_at, nothing_there}

-- what one step says of the whole reading
abbrev pub Turn : (limit : ℕ) → ℕ → Blocks → Token → List Token → List Token → Reading → Next → Type 0
Turn limit least scope token here rest whole (go fs held change) = run limit least (changed change scope) fs held rest ≡ whole
Turn limit least scope token here rest whole (stop done) = whole ≡ Ok (done, here, scope)
Turn limit least scope token here rest whole deep = whole ≡ Err (large Depth 257)
Turn limit least scope token here rest whole fail = whole ≡ Err (fault_at token)

abbrev outcome : (limit : ℕ) → ℕ → Blocks → Token → List Token → Next → Reading
outcome limit least scope token rest n = elim n as (λ _. Reading) [ go fs held change ↦ run limit least (changed change scope) fs held rest | stop done ↦ Ok (done, token ∷ rest, scope) | deep ↦ Err (large Depth 257) | fail ↦ Err (fault_at token) ]

turn_at : (limit least : ℕ) (scope : Blocks) (token : Token) (here rest : List Token) (whole : Reading) (n : Next) → here ≡ token ∷ rest → outcome limit least scope token rest n ≡ whole → Turn limit least scope token here rest whole n
turn_at limit least scope token here rest whole (go fs held change) e h = h
turn_at limit least scope token here rest whole (stop done) e h = sym h ∙ ap (λ (ts : List Token). Ok (done, ts, scope)) (sym e)
turn_at limit least scope token here rest whole deep e h = sym h
turn_at limit least scope token here rest whole fail e h = sym h

pub turn : (limit least : ℕ) (scope : Blocks) (tokens : List Token) (i : ℕ) (d : Token) (fs : List Frame) (held : Held) (whole : Reading) (n : Next) → i < length tokens
    → run limit least scope fs held (drop i tokens) ≡ whole → n ≡ step limit least scope fs held (get_or tokens i d) → Turn limit least scope (get_or tokens i d) (drop i tokens) (drop (i + 1) tokens) whole n
turn limit least scope tokens i d fs held whole n lt so_far h =
    let token : Token = get_or tokens i d in
    let e : drop i tokens ≡ token ∷ drop (i + 1) tokens = rw (add-one, drop-cons tokens i d) refl in
    turn_at limit least scope token (drop i tokens) (drop (i + 1) tokens) whole n e (ap (outcome limit least scope token (drop (i + 1) tokens)) h ∙ ap (run limit least scope fs held) (sym e) ∙ so_far)

-- what the code's step says of it
pub turn_by : (limit least : ℕ) (scope : Blocks) (tokens : List Token) (i : ℕ) (d : Token) (fs : List Frame) (held : Held) (whole : Reading) (s t : Step) → s ≡ t → i < length tokens
    → run limit least scope fs held (drop i tokens) ≡ whole → next_of s ≡ step limit least scope fs held (get_or tokens i d) → Turn limit least scope (get_or tokens i d) (drop i tokens) (drop (i + 1) tokens) whole (next_of t)
turn_by limit least scope tokens i d fs held whole s t e lt so_far h =
    subst (λ (x : Step). Turn limit least scope (get_or tokens i d) (drop i tokens) (drop (i + 1) tokens) whole (next_of x)) e (turn limit least scope tokens i d fs held whole (next_of s) lt so_far h)

-- the same of the item of a loop over the tokens
pub turn_item : (limit least : ℕ) (scope : Blocks) (tokens : List Token) (i : ℕ) (token : Token) (fs : List Frame) (held : Held) (whole : Reading) (s t : Step) → token ≡ get_or tokens i token → s ≡ t → i < length tokens
    → run limit least scope fs held (drop i tokens) ≡ whole → next_of s ≡ step limit least scope fs held token → Turn limit least scope token (drop i tokens) (drop (i + 1) tokens) whole (next_of t)
turn_item limit least scope tokens i token fs held whole s t is e lt so_far h =
    subst (λ (u : Token). Turn limit least scope u (drop i tokens) (drop (i + 1) tokens) whole (next_of t)) (sym is) (turn_by limit least scope tokens i token fs held whole s t e lt so_far (h ∙ ap (λ (u : Token). step limit least scope fs held u) is))

pub ran_out : (limit least : ℕ) (scope : Blocks) (tokens : List Token) (i : ℕ) (fs : List Frame) (held : Held) (whole : Reading) → length tokens ≤ i → run limit least scope fs held (drop i tokens) ≡ whole → whole ≡ Err nothing_there
ran_out limit least scope tokens i fs held whole le so_far = let d : drop i tokens ≡ [] = drop_all i tokens le in sym so_far ∙ ap (run limit least scope fs held) d
