-- Readings that depend on no token behind the one at which they end.
use Rattle.std.proofs.Common.{◌≡◌, ℕ, ◌+◌, ◌≤◌, List, [], ◌∷◌, ◌++◌, length, length-append, Bool, true, false, refl, sym, ap, ◌∙◌, subst, inl, inr, arith}
use Rattle.std.specs.Prelude.{◌⊎◌, Result, Ok, Err, if◌then◌else◌}
use Rattle.c65_base.specs.Answers.{Fault, at, large}
use Rattle.c65_base.specs.declared.refusal.Size.TheVariants.{Depth}
use Rattle.c65_scan.specs.declared.token.Keyword.{Keyword}
use Rattle.c65_scan.specs.declared.token.Keyword.TheVariants as keywords
use Rattle.c65_scan.specs.declared.token.Token.{Token}
use Rattle.c65_scan.specs.declared.token.TokenKind.{TokenKind}
use Rattle.c65_scan.specs.declared.token.TokenKind.TheVariants as kinds
use Rattle.c65_parse_names.specs.Scopes.{Blocks}
use Rattle.c65_parse.specs.Machine.{fault_at, fault_code, fault_of_keyword}
use Rattle.c65_parse.specs.Reading.{Answer, token_at, after_token}
use Rattle.c65_decl.specs.Here.{unexpected}
use Rattle.c65_parse_grammar.specs.Readings.{code_of}
use Rattle.c65_parse_law_sound.proofs.Got.{EndsIn, First}
use Rattle.c65_parse_law_faults.specs.Faults.{IsFaultOf}

-- by the tokens of the unit, those that bound the steps, and the tokens
abbrev pub Reader : Type 0 → Type 0
Reader A = List Token → List Token → List Token → Result A Fault

abbrev pub Triple : Type 0 → Type 0
Triple A = A × List Token × Blocks

-- a fault behind so many tokens at least, but for that of depth
pub record Failed {A : Type 0} (c k : ℕ) (read : Reader A) (ts : List Token) (e : Fault) : Type 0 where
  pub before : List Token
  pub next : Token
  pub others : List Token
  pub tokens_are : ts ≡ before ++ next ∷ others
  pub fault_is : IsFaultOf next e
  pub late : (c ≤ length before) ⊎ (e ≡ large Depth 257)
  pub again : (unit us more : List Token) → length (before ++ next ∷ more) ≤ length unit → k + length (before ++ next ∷ more) ≤ length us → read unit us (before ++ next ∷ more) ≡ Err e

-- a tree of so many tokens at least
pub record Went {A : Type 0} (m k : ℕ) (read : Reader (Triple A)) (ts : List Token) (a : A) (rest : List Token) (scope : Blocks) : Type 0 where
  pub before : List Token
  pub next : Token
  pub others : List Token
  pub tokens_are : ts ≡ before ++ next ∷ others
  pub rest_is : rest ≡ next ∷ others
  pub some : m ≤ length before
  pub again : (unit us more : List Token) → length (before ++ next ∷ more) ≤ length unit → k + length (before ++ next ∷ more) ≤ length us → read unit us (before ++ next ∷ more) ≡ Ok (a, next ∷ more, scope)

abbrev pub Is : {A : Type 0} → ℕ → ℕ → ℕ → Reader (Triple A) → List Token → Answer A → Type 0
Is c m k read ts (Ok (a, rest, scope)) = Went m k read ts a rest scope
Is c m k read ts (Err e) = Failed c k read ts e

-- a fault behind c tokens at least, or a tree of m at least; k tokens more than there are bound the steps
abbrev pub Local : {A : Type 0} → ℕ → ℕ → ℕ → Reader (Triple A) → List Token → List Token → List Token → Type 0
Local c m k read unit us ts = Is c m k read ts (read unit us ts)

abbrev pub head_or : Token → List Token → Token
head_or d [] = d
head_or d (x ∷ xs) = x

-- what goes on as before up to a token, and from there in another way
pub front_same : (x : Token) (xs before : List Token) (next : Token) (others more : List Token) → x ∷ xs ≡ before ++ next ∷ others → (ys : List Token) × (before ++ next ∷ more ≡ x ∷ ys)
front_same x xs [] next others more e = (more, ap (λ y. y ∷ more) (sym (ap (head_or x) e)))
front_same x xs (b ∷ before) next others more e = (before ++ next ∷ more, ap (λ y. y ∷ (before ++ next ∷ more)) (sym (ap (head_or x) e)))

pub here_is : (x : Token) (xs : List Token) → token_at (x ∷ xs) 0 ≡ x
here_is x [] = refl
here_is x (y ∷ ys) = refl

pub front_here : (before : List Token) (next : Token) (others more : List Token) → token_at (before ++ next ∷ others) 0 ≡ token_at (before ++ next ∷ more) 0
front_here [] next others more = here_is next others ∙ sym (here_is next more)
front_here (b ∷ before) next others more = here_is b (before ++ next ∷ others) ∙ sym (here_is b (before ++ next ∷ more))

pub passed : (x : Token) (before : List Token) (next : Token) (more : List Token) → after_token (x ∷ (before ++ next ∷ more)) ≡ before ++ next ∷ more
passed x [] next more = refl
passed x (b ∷ before) next more = refl

same_keyword : (k : Keyword) → fault_of_keyword k ≡ code_of (kinds.Keyword k)
same_keyword keywords.Asm = refl
same_keyword keywords.UnderscoredAsm = refl
same_keyword _ = refl

same_code : (k : TokenKind) → fault_code k ≡ code_of k
same_code (kinds.Keyword k) = same_keyword k
same_code (kinds.Name n) = refl
same_code (kinds.Number ty n) = refl
same_code (kinds.Text bs) = refl
same_code (kinds.Punct p) = refl
same_code kinds.End = refl

pub fault_of : (next : Token) → IsFaultOf next (fault_at next)
fault_of next = inl (ap (λ c. at c next.pos) (same_code next.kind))

-- an answer that stands
abbrev pub done : {A : Type 0} (c k : ℕ) (a : A) (scope : Blocks) (unit us ts : List Token) → EndsIn ts → Local c 0 k (λ unit us ys. Ok (a, ys, scope)) unit us ts
done c k a scope unit us [] ends = absurd ends
done c k a scope unit us (t ∷ ts) ends = record { before = []; next = t; others = ts; tokens_are = refl; rest_is = refl; some = omega arith; again = λ unit us more fit room. refl }

-- the fault of the first token
abbrev pub fails : {A : Type 0} (m k : ℕ) (unit us ts : List Token) → EndsIn ts → Local {A = A} 0 m k (λ unit us ys. unexpected ys) unit us ts
fails m k unit us [] ends = absurd ends
fails m k unit us (t ∷ ts) ends = record {
  before = [];
  next = t;
  others = ts;
  tokens_are = refl;
  fault_is = subst (λ x. IsFaultOf t (fault_at x)) (sym (here_is t ts)) (fault_of t);
  late = inl (omega arith);
  again = λ unit us more fit room. ap (λ x. Err (fault_at x)) (here_is t more ∙ sym (here_is t ts));
}

-- the limit of depth
abbrev pub too_deep : {A : Type 0} (c m k : ℕ) (unit us ts : List Token) → EndsIn ts → Local {A = A} c m k (λ unit us ys. Err (large Depth 257)) unit us ts
too_deep c m k unit us [] ends = absurd ends
too_deep c m k unit us (t ∷ ts) ends = record { before = []; next = t; others = ts; tokens_are = refl; fault_is = inr refl; late = inr refl; again = λ unit us more fit room. refl }

-- fewer tokens are demanded
abbrev pub looser : {A : Type 0} (c d m n k : ℕ) (read : Reader (Triple A)) (ts : List Token) (r : Answer A) → d ≤ c → n ≤ m → Is c m k read ts r → Is d n k read ts r
looser c d m n k read ts (Ok (a, rest, scope)) low less h = record { before = h.before; next = h.next; others = h.others; tokens_are = h.tokens_are; rest_is = h.rest_is; some = let some = h.some in omega (arith, less, some); again = h.again }
looser c d m n k read ts (Err e) low less h = record { before = h.before; next = h.next; others = h.others; tokens_are = h.tokens_are; fault_is = h.fault_is; late = later h.late; again = h.again }
  where
    later : (c ≤ length h.before) ⊎ (e ≡ large Depth 257) → (d ≤ length h.before) ⊎ (e ≡ large Depth 257)
    later (inl x) = inl (omega (arith, low, x))
    later (inr x) = inr x

-- a reading that answers the same of the tokens
abbrev pub alike : {A : Type 0} (c m k : ℕ) (read other : Reader (Triple A)) (ts : List Token) (r : Answer A) → ((unit us ys : List Token) → k + 1 ≤ length us → other unit us ys ≡ read unit us ys) → Is c m k read ts r → Is c m k other ts r
alike c m k read other ts (Ok (a, rest, scope)) f h = record { before = h.before; next = h.next; others = h.others; tokens_are = h.tokens_are; rest_is = h.rest_is; some = h.some; again = λ unit us more fit room. f unit us (h.before ++ h.next ∷ more) (let long = length-append h.before (h.next ∷ more) in omega (arith, room, long)) ∙ h.again unit us more fit room }
alike c m k read other ts (Err e) f h = record { before = h.before; next = h.next; others = h.others; tokens_are = h.tokens_are; fault_is = h.fault_is; late = h.late; again = λ unit us more fit room. f unit us (h.before ++ h.next ∷ more) (let long = length-append h.before (h.next ∷ more) in omega (arith, room, long)) ∙ h.again unit us more fit room }

-- a reading that depends on the first token
abbrev pub first_by : {A : Type 0} (c m k : ℕ) (read : Token → Reader (Triple A)) (ts : List Token) (r : Answer A) → Is c m k (read (token_at ts 0)) ts r → Is c m k (λ unit us ys. read (token_at ys 0) unit us ys) ts r
first_by c m k read ts (Ok (a, rest, scope)) h = record { before = h.before; next = h.next; others = h.others; tokens_are = h.tokens_are; rest_is = h.rest_is; some = h.some; again = λ unit us more fit room. ap (λ x. read x unit us (h.before ++ h.next ∷ more)) (sym (ap (λ xs. token_at xs 0) h.tokens_are ∙ front_here h.before h.next h.others more)) ∙ h.again unit us more fit room }
first_by c m k read ts (Err e) h = record { before = h.before; next = h.next; others = h.others; tokens_are = h.tokens_are; fault_is = h.fault_is; late = h.late; again = λ unit us more fit room. ap (λ x. read x unit us (h.before ++ h.next ∷ more)) (sym (ap (λ xs. token_at xs 0) h.tokens_are ∙ front_here h.before h.next h.others more)) ∙ h.again unit us more fit room }

pub by_first : {A : Type 0} (c m k : ℕ) (read : Token → Reader (Triple A)) (unit us ts : List Token) → Local c m k (read (token_at ts 0)) unit us ts → Local c m k (λ unit us ys. read (token_at ys 0) unit us ys) unit us ts
by_first c m k read unit us ts h = first_by c m k read ts (read (token_at ts 0) unit us ts) h

pub local_if : {A : Type 0} (c m k : ℕ) (b : Bool) (yes_read no_read : Reader (Triple A)) (unit us ts : List Token) → (b ≡ true → Local c m k yes_read unit us ts) → (b ≡ false → Local c m k no_read unit us ts) → Local c m k (λ unit us ys. if b then yes_read unit us ys else no_read unit us ys) unit us ts
local_if c m k true yes_read no_read unit us ts f g = f refl
local_if c m k false yes_read no_read unit us ts f g = g refl

-- by a test of the first token
pub if_first : {A : Type 0} (c m k : ℕ) (test : Token → Bool) (yes_read no_read : Reader (Triple A)) (unit us ts : List Token) → (test (token_at ts 0) ≡ true → Local c m k yes_read unit us ts) → (test (token_at ts 0) ≡ false → Local c m k no_read unit us ts) → Local c m k (λ unit us ys. if test (token_at ys 0) then yes_read unit us ys else no_read unit us ys) unit us ts
if_first c m k test yes_read no_read unit us ts f g = by_first c m k (λ x unit us ys. if test x then yes_read unit us ys else no_read unit us ys) unit us ts (local_if c m k (test (token_at ts 0)) yes_read no_read unit us ts f g)

-- a token before what is read
abbrev pub shifted : {A : Type 0} (c d m n k j : ℕ) (tok : Token) (inner outer : Reader (Triple A)) (ts : List Token) (r : Answer A) → d ≤ 1 + c → n ≤ 1 + m → j ≤ k + 1
    → ((unit us before : List Token) (next : Token) (more : List Token) → outer unit us (tok ∷ (before ++ next ∷ more)) ≡ inner unit us (before ++ next ∷ more))
    → Is c m j inner ts r → Is d n k outer (tok ∷ ts) r
shifted c d m n k j tok inner outer ts (Ok (a, rest, scope)) low less near f h = record {
  before = tok ∷ h.before;
  next = h.next;
  others = h.others;
  tokens_are = ap (λ xs. tok ∷ xs) h.tokens_are;
  rest_is = h.rest_is;
  some = let some = h.some in omega (arith, less, some);
  again = λ unit us more fit room. f unit us h.before h.next more ∙ h.again unit us more (omega (arith, fit)) (omega (arith, room, near));
}
shifted c d m n k j tok inner outer ts (Err e) low less near f h = record {
  before = tok ∷ h.before;
  next = h.next;
  others = h.others;
  tokens_are = ap (λ xs. tok ∷ xs) h.tokens_are;
  fault_is = h.fault_is;
  late = later h.late;
  again = λ unit us more fit room. f unit us h.before h.next more ∙ h.again unit us more (omega (arith, fit)) (omega (arith, room, near));
}
  where
    later : (c ≤ length h.before) ⊎ (e ≡ large Depth 257) → (d ≤ length (tok ∷ h.before)) ⊎ (e ≡ large Depth 257)
    later (inl x) = inl (omega (arith, low, x))
    later (inr x) = inr x

-- the first token is taken
pub past : {A : Type 0} (c d m n k j : ℕ) (inner : Reader (Triple A)) (unit us ts : List Token) → d ≤ 1 + c → n ≤ 1 + m → j ≤ k + 1 → (first : First ts) → Local c m j inner unit us first.rest
    → Local d n k (λ unit us ys. inner unit us (after_token ys)) unit us ts
past c d m n k j inner unit us ts low less near first h = subst (λ xs. Is d n k (λ unit us ys. inner unit us (after_token ys)) xs (inner unit us (after_token ts))) (sym first.tokens_are)
    (subst (λ xs. Is d n k (λ unit us ys. inner unit us (after_token ys)) (first.tok ∷ first.rest) (inner unit us xs)) (sym first.behind)
    (shifted c d m n k j first.tok inner (λ unit us ys. inner unit us (after_token ys)) first.rest (inner unit us first.rest) low less near (λ unit us before next more. ap (inner unit us) (passed first.tok before next more)) h))
