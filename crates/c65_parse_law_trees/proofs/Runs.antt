-- Steps of a run, and phrases in front of what is left.
use Rattle.std.proofs.Common.{◌≡◌, ℕ, List, [], ◌∷◌, ◌++◌, refl, sym, ap, subst, append_assoc}
use Rattle.std.specs.Prelude.{Ok, Err}
use Rattle.c65_base.specs.Answers.{large}
use Rattle.c65_base.specs.declared.refusal.Pos.{Pos}
use Rattle.c65_base.specs.declared.refusal.Size.TheVariants.{Depth}
use Rattle.c65_scan.specs.declared.token.Token.{Token}
use Rattle.c65_scan.specs.declared.token.TokenKind.{TokenKind}
use Rattle.c65_parse_trees.specs.Signs.{sign_of_kind}
use Rattle.c65_parse_names.specs.Scopes.{Blocks}
use Rattle.c65_parse.specs.declared.frame.Change.{Change}
use Rattle.c65_parse.specs.declared.frame.Change.TheVariants as changes
use Rattle.c65_parse.specs.Frames.{Frame, Held, Next, go, stop, deep, fail}
use Rattle.c65_parse.specs.Expressions.{goes}
use Rattle.c65_parse.specs.Machine.{Reading, run, step, step_by, changed, fault_at}
use Rattle.c65_parse_grammar.specs.Phrases.{Phrase, ◌▸◌, token, one, some}
use Rattle.c65_parse_grammar.specs.Scopes.{Scope}

abbrev pub then_run : (limit : ℕ) → ℕ → Blocks → Token → List Token → Next → Reading
then_run limit least scope tok tokens n = elim n as (λ _. Reading) [ go gs next change ↦ run limit least (changed change scope) gs next tokens | stop done ↦ Ok (done, tok ∷ tokens, scope) | deep ↦ Err (large Depth 257) | fail ↦ Err (fault_at tok) ]

-- one token
pub takes : (limit : ℕ) (least : ℕ) (sc : Scope) (outer : Blocks) (fs : List Frame) (held : Held) (tok : Token) (ts : List Token) (gs : List Frame) (next : Held) (change : Change)
    → step_by limit least fs held tok (sign_of_kind sc tok.kind) ≡ go gs next change → run limit least (sc ∷ outer) fs held (tok ∷ ts) ≡ run limit least (changed change (sc ∷ outer)) gs next ts
unfolding step
takes limit least sc outer fs held tok ts gs next change h = ap (then_run limit least (sc ∷ outer) tok ts) h

-- a token that leaves the scope as it is
pub steps : (limit : ℕ) (least : ℕ) (sc : Scope) (outer : Blocks) (fs : List Frame) (held : Held) (tok : Token) (ts : List Token) (gs : List Frame) (next : Held)
    → step_by limit least fs held tok (sign_of_kind sc tok.kind) ≡ goes gs next → run limit least (sc ∷ outer) fs held (tok ∷ ts) ≡ run limit least (sc ∷ outer) gs next ts
steps limit least sc outer fs held tok ts gs next h = takes limit least sc outer fs held tok ts gs next changes.Nothing h

-- the first token, if there is one
abbrev pub First : (Token → Type 0) → List Token → Type 0
First P [] = Unit {0}
First P (tok ∷ ts) = P tok

-- where the first token does the same in two states
pub same : (limit : ℕ) (least : ℕ) (sc : Scope) (outer : Blocks) (fs gs : List Frame) (held next : Held) (ts : List Token)
    → First (λ tok. step_by limit least fs held tok (sign_of_kind sc tok.kind) ≡ step_by limit least gs next tok (sign_of_kind sc tok.kind)) ts → run limit least (sc ∷ outer) fs held ts ≡ run limit least (sc ∷ outer) gs next ts
unfolding step
same limit least sc outer fs gs held next [] h = refl
same limit least sc outer fs gs held next (tok ∷ ts) h = ap (then_run limit least (sc ∷ outer) tok ts) h

pub first_map : (P Q : Token → Type 0) (ts : List Token) → ((tok : Token) → P tok → Q tok) → First P ts → First Q ts
first_map P Q [] f h = tt
first_map P Q (tok ∷ ts) f h = f tok h

-- two phrases one after the other
pub split : {A B : Phrase} (R : List Token → Type 0) (xs rest : List Token) → (A ▸ B) xs → ((ys zs : List Token) → A ys → B zs → R (ys ++ (zs ++ rest))) → R (xs ++ rest)
split R xs rest p f = subst (λ ts. R (ts ++ rest)) (sym p.2) (subst R (sym (append_assoc p.0 p.1 rest)) (f p.0 p.1 p.3 p.4))

pub single : (R : List Token → Type 0) (l : Pos) (k : TokenKind) (xs rest : List Token) → one l k xs → R (token k l ∷ rest) → R (xs ++ rest)
single R l k xs rest p h = subst (λ ts. R (ts ++ rest)) (sym p) h

-- what the tokens lead to
abbrev pub Leads : (limit : ℕ) → ℕ → Scope → Blocks → List Frame → Held → Reading → List Token → Type 0
Leads limit least sc outer fs held d ts = run limit least (sc ∷ outer) fs held ts ≡ d

-- a token, and what is behind it
pub before : {B : Phrase} (R : List Token → Type 0) (l : Pos) (k : TokenKind) (xs rest : List Token) → (one l k ▸ B) xs → ((zs : List Token) → B zs → R (token k l ∷ (zs ++ rest))) → R (xs ++ rest)
before R l k xs rest p f = split R xs rest p (λ ys zs a b. single R l k ys (zs ++ rest) a (f zs b))

pub before_some : {B : Phrase} (R : List Token → Type 0) (k : TokenKind) (xs rest : List Token) → (some k ▸ B) xs → ((l : Pos) (zs : List Token) → B zs → R (token k l ∷ (zs ++ rest))) → R (xs ++ rest)
before_some R k xs rest p f = split R xs rest p (λ ys zs a b. single R a.0 k ys (zs ++ rest) a.1 (f a.0 zs b))

-- what is before a token
pub behind : {A : Phrase} (R : List Token → Type 0) (l : Pos) (k : TokenKind) (xs rest : List Token) → (A ▸ one l k) xs → ((ys : List Token) → A ys → R (ys ++ (token k l ∷ rest))) → R (xs ++ rest)
behind R l k xs rest p f = split R xs rest p (λ ys zs a b. single (λ ts. R (ys ++ ts)) l k zs rest b (f ys a))

pub behind_some : {A : Phrase} (R : List Token → Type 0) (k : TokenKind) (xs rest : List Token) → (A ▸ some k) xs → ((l : Pos) (ys : List Token) → A ys → R (ys ++ (token k l ∷ rest))) → R (xs ++ rest)
behind_some R k xs rest p f = split R xs rest p (λ ys zs a b. single (λ ts. R (ys ++ ts)) b.0 k zs rest b.1 (f b.0 ys a))

-- what is round a token
pub between : {A B : Phrase} (R : List Token → Type 0) (l : Pos) (k : TokenKind) (xs rest : List Token) → (A ▸ (one l k ▸ B)) xs → ((ys zs : List Token) → A ys → B zs → R (ys ++ (token k l ∷ (zs ++ rest)))) → R (xs ++ rest)
between R l k xs rest p f = split R xs rest p (λ ys us a b. before (λ ts. R (ys ++ ts)) l k us rest b (λ zs c. f ys zs a c))

pub between_some : {A B : Phrase} (R : List Token → Type 0) (k : TokenKind) (xs rest : List Token) → (A ▸ (some k ▸ B)) xs → ((l : Pos) (ys zs : List Token) → A ys → B zs → R (ys ++ (token k l ∷ (zs ++ rest)))) → R (xs ++ rest)
between_some R k xs rest p f = split R xs rest p (λ ys us a b. before_some (λ ts. R (ys ++ ts)) k us rest b (λ l zs c. f l ys zs a c))
