-- What readings of a unit have taken of its tokens, the last of which is an End.
use Rattle.std.proofs.Common.{◌≡◌, List, [], ◌∷◌, ◌++◌, Bool, true, false, refl, sym, ap, ◌∙◌, subst, append_assoc}
use Rattle.std.specs.Prelude.{Ok, Err, if◌then◌else◌}
use Rattle.c65_base.specs.Answers.{◌>>=◌}
use Rattle.c65_scan.specs.declared.token.Keyword.{Keyword}
use Rattle.c65_scan.specs.declared.token.Keyword.TheVariants as keywords
use Rattle.c65_scan.specs.declared.token.Punct.{Punct}
use Rattle.c65_scan.specs.declared.token.Punct.TheVariants as puncts
use Rattle.c65_scan.specs.declared.token.Token.{Token}
use Rattle.c65_scan.specs.declared.token.TokenKind.{TokenKind}
use Rattle.c65_scan.specs.declared.token.TokenKind.TheVariants as kinds
use Rattle.c65_parse_names.specs.Scopes.{Blocks}
use Rattle.c65_parse.specs.Reading.{Answer, token_at, after_token}
use Rattle.c65_parse_frames.specs.declared.sign.Sign.{Sign}
use Rattle.c65_parse_frames.specs.declared.sign.Sign.TheVariants as signs
use Rattle.c65_parse_frames.specs.declared.sign.Mark.{Mark}
use Rattle.c65_parse_frames.specs.declared.sign.Mark.TheVariants as marks
use Rattle.c65_parse_frames.specs.Signs.{sign_of, sign_of_keyword, sign_of_punct, is_mark}
use Rattle.c65_decl.specs.Here.{sign_here, pos_here, is_here, unexpected, expected}
use Rattle.c65_parse_grammar.specs.Phrases.{Phrase, one, some}
use Rattle.c65_parse_law_sound.proofs.Phrases.{is_one, is_some_one, true_false}

abbrev pub EndsIn : List Token → Type 0
EndsIn [] = ⊥
EndsIn (t ∷ []) = t.kind ≡ kinds.End
EndsIn (t ∷ u ∷ ts) = EndsIn (u ∷ ts)

pub ends_behind : (xs : List Token) (u : Token) (ts : List Token) → EndsIn (xs ++ u ∷ ts) → EndsIn (u ∷ ts)
ends_behind [] u ts h = h
ends_behind (x ∷ []) u ts h = h
ends_behind (x ∷ y ∷ xs) u ts h = ends_behind (y ∷ xs) u ts h

-- what was taken from the front, and what is left
pub record Taken {A : Type 0} (phrase : A → Phrase) (behind : A → Blocks) (ts : List Token) (a : A) (rest : List Token) (scope : Blocks) : Type 0 where
  pub front : List Token
  pub tokens_are : ts ≡ front ++ rest
  pub ends : EndsIn rest
  pub derives : phrase a front
  pub scope_is : scope ≡ behind a

abbrev pub Got : {A : Type 0} → (A → Phrase) → (A → Blocks) → List Token → Answer A → Type 0
Got phrase behind ts (Ok (a, rest, scope)) = Taken phrase behind ts a rest scope
Got phrase behind ts (Err e) = Unit {0}

-- behind some tokens
pub shift : {A : Type 0} (phrase : A → Phrase) (behind : A → Blocks) (front rest ts : List Token) (r : Answer A) → ts ≡ front ++ rest → Got (λ a ys. phrase a (front ++ ys)) behind rest r → Got phrase behind ts r
shift phrase behind front rest ts (Err e) are h = tt
shift phrase behind front rest ts (Ok (a, left, scope)) are h = record {
  front = front ++ h.front;
  tokens_are = are ∙ (ap (λ xs. front ++ xs) h.tokens_are ∙ sym (append_assoc front h.front left));
  ends = h.ends;
  derives = h.derives;
  scope_is = h.scope_is;
}

-- one reading, and then another
pub seq : {A B : Type 0} (first : A → Phrase) (middle : A → Blocks) (phrase : B → Phrase) (behind : B → Blocks) (ts : List Token) (r : Answer A) (f : A × List Token × Blocks → Answer B) → Got first middle ts r
    → ((a : A) (xs rest : List Token) → ts ≡ xs ++ rest → first a xs → EndsIn rest → Got (λ b ys. phrase b (xs ++ ys)) behind rest (f (a, rest, middle a)))
    → Got phrase behind ts (r >>= f)
seq first middle phrase behind ts (Err e) f h k = tt
seq first middle phrase behind ts (Ok (a, rest, scope)) f h k = subst (λ s. Got phrase behind ts (f (a, rest, s))) (sym h.scope_is) (shift phrase behind h.front rest ts (f (a, rest, middle a)) h.tokens_are (k a h.front rest h.tokens_are h.derives h.ends))

-- a reading that answers the same otherwise
pub weaken : {A : Type 0} (first phrase : A → Phrase) (middle behind : A → Blocks) (ts : List Token) (r : Answer A) → Got first middle ts r → ((a : A) (xs : List Token) → first a xs → phrase a xs) → ((a : A) → middle a ≡ behind a) → Got phrase behind ts r
weaken first phrase middle behind ts (Err e) h f k = tt
weaken first phrase middle behind ts (Ok (a, rest, scope)) h f k = record { front = h.front; tokens_are = h.tokens_are; ends = h.ends; derives = f a h.front h.derives; scope_is = h.scope_is ∙ k a }

-- the same tree in another
pub mapped : {A B : Type 0} (f : A → B) (first : A → Phrase) (middle : A → Blocks) (phrase : B → Phrase) (behind : B → Blocks) (ts : List Token) (r : Answer A) → Got first middle ts r → ((a : A) (xs : List Token) → first a xs → phrase (f a) xs) → ((a : A) → middle a ≡ behind (f a)) → Got phrase behind ts (r >>= (λ e. Ok (f e.0, e.1, e.2)))
mapped f first middle phrase behind ts (Err e) h g k = tt
mapped f first middle phrase behind ts (Ok (a, rest, scope)) h g k = record { front = h.front; tokens_are = h.tokens_are; ends = h.ends; derives = g a h.front h.derives; scope_is = h.scope_is ∙ k a }

pub got_if : {A : Type 0} (phrase : A → Phrase) (behind : A → Blocks) (ts : List Token) (b : Bool) (r q : Answer A) → (b ≡ true → Got phrase behind ts r) → (b ≡ false → Got phrase behind ts q) → Got phrase behind ts (if b then r else q)
got_if phrase behind ts true r q f g = f refl
got_if phrase behind ts false r q f g = g refl

abbrev pub mark_kind : Mark → TokenKind
mark_kind marks.OpenParen = kinds.Punct puncts.OpenParen
mark_kind marks.CloseParen = kinds.Punct puncts.CloseParen
mark_kind marks.OpenBrace = kinds.Punct puncts.OpenBrace
mark_kind marks.CloseBrace = kinds.Punct puncts.CloseBrace
mark_kind marks.Comma = kinds.Punct puncts.Comma
mark_kind marks.Colon = kinds.Punct puncts.Colon
mark_kind marks.Semicolon = kinds.Punct puncts.Semicolon
mark_kind marks.Equal = kinds.Punct puncts.Equal
mark_kind marks.Else = kinds.Keyword keywords.Else
mark_kind marks.While = kinds.Keyword keywords.While
mark_kind marks.End = kinds.End

abbrev pub mark_phrase : Mark → Phrase
mark_phrase mark = some (mark_kind mark)

-- what the sign of a token says of it
abbrev pub Tells : Sign → TokenKind → Type 0
Tells (signs.Name n) k = k ≡ kinds.Name n
Tells signs.Specifier k = Unit {0}
Tells signs.Operand k = Unit {0}
Tells signs.OpenParen k = k ≡ kinds.Punct puncts.OpenParen
Tells signs.CloseParen k = k ≡ kinds.Punct puncts.CloseParen
Tells signs.OpenBrace k = k ≡ kinds.Punct puncts.OpenBrace
Tells signs.CloseBrace k = k ≡ kinds.Punct puncts.CloseBrace
Tells signs.Comma k = k ≡ kinds.Punct puncts.Comma
Tells signs.Colon k = k ≡ kinds.Punct puncts.Colon
Tells signs.Semicolon k = k ≡ kinds.Punct puncts.Semicolon
Tells signs.Equal k = k ≡ kinds.Punct puncts.Equal
Tells signs.Case k = k ≡ kinds.Keyword keywords.Case
Tells signs.Default k = k ≡ kinds.Keyword keywords.Default
Tells signs.If k = k ≡ kinds.Keyword keywords.If
Tells signs.Else k = k ≡ kinds.Keyword keywords.Else
Tells signs.Switch k = k ≡ kinds.Keyword keywords.Switch
Tells signs.While k = k ≡ kinds.Keyword keywords.While
Tells signs.Do k = k ≡ kinds.Keyword keywords.Do
Tells signs.For k = k ≡ kinds.Keyword keywords.For
Tells signs.Goto k = k ≡ kinds.Keyword keywords.Goto
Tells signs.Continue k = k ≡ kinds.Keyword keywords.Continue
Tells signs.Break k = k ≡ kinds.Keyword keywords.Break
Tells signs.Return k = k ≡ kinds.Keyword keywords.Return
Tells signs.End k = k ≡ kinds.End
Tells signs.Other k = Unit {0}

tells_keyword : (k : Keyword) → Tells (sign_of_keyword k) (kinds.Keyword k)
tells_keyword keywords.Case = refl
tells_keyword keywords.Default = refl
tells_keyword keywords.If = refl
tells_keyword keywords.Else = refl
tells_keyword keywords.Switch = refl
tells_keyword keywords.While = refl
tells_keyword keywords.Do = refl
tells_keyword keywords.For = refl
tells_keyword keywords.Goto = refl
tells_keyword keywords.Continue = refl
tells_keyword keywords.Break = refl
tells_keyword keywords.Return = refl
tells_keyword _ = tt

tells_punct : (p : Punct) → Tells (sign_of_punct p) (kinds.Punct p)
tells_punct puncts.OpenParen = refl
tells_punct puncts.CloseParen = refl
tells_punct puncts.OpenBrace = refl
tells_punct puncts.CloseBrace = refl
tells_punct puncts.Comma = refl
tells_punct puncts.Colon = refl
tells_punct puncts.Semicolon = refl
tells_punct puncts.Equal = refl
tells_punct _ = tt

pub tells : (k : TokenKind) → Tells (sign_of k) k
tells (kinds.Keyword k) = tells_keyword k
tells (kinds.Name n) = refl
tells (kinds.Number ty n) = tt
tells (kinds.Text bs) = tt
tells (kinds.Punct p) = tells_punct p
tells kinds.End = refl

mark_told : (mark : Mark) (sign : Sign) (k : TokenKind) → is_mark mark sign ≡ true → Tells sign k → k ≡ mark_kind mark
mark_told marks.OpenParen signs.OpenParen k e s = s
mark_told marks.CloseParen signs.CloseParen k e s = s
mark_told marks.OpenBrace signs.OpenBrace k e s = s
mark_told marks.CloseBrace signs.CloseBrace k e s = s
mark_told marks.Comma signs.Comma k e s = s
mark_told marks.Colon signs.Colon k e s = s
mark_told marks.Semicolon signs.Semicolon k e s = s
mark_told marks.Equal signs.Equal k e s = s
mark_told marks.Else signs.Else k e s = s
mark_told marks.While signs.While k e s = s
mark_told marks.End signs.End k e s = s
mark_told _ _ k e s = absurd cc

-- the first token, behind which something is left
pub record First (ts : List Token) : Type 0 where
  pub tok : Token
  pub rest : List Token
  pub tokens_are : ts ≡ tok ∷ rest
  pub here : token_at ts 0 ≡ tok
  pub behind : after_token ts ≡ rest
  pub ends : EndsIn rest

pub first_of_these : (ts : List Token) → (sign_here ts ≡ signs.End → ⊥) → EndsIn ts → First ts
first_of_these [] not ends = absurd ends
first_of_these (t ∷ []) not ends = absurd (not (ap sign_of ends))
first_of_these (t ∷ u ∷ ts) not ends = record { tok = t; rest = u ∷ ts; tokens_are = refl; here = refl; behind = refl; ends = ends }

not_at_end : (mark : Mark) (ts : List Token) → is_mark mark signs.End ≡ false → is_here mark ts ≡ true → sign_here ts ≡ signs.End → ⊥
not_at_end mark ts e h s = true_false (sym h ∙ (ap (is_mark mark) s ∙ e))

pub first_of_mark : (mark : Mark) (ts : List Token) → is_mark mark signs.End ≡ false → is_here mark ts ≡ true → EndsIn ts → First ts
first_of_mark mark ts e h ends = first_of_these ts (not_at_end mark ts e h) ends

pub kind_of_mark : (mark : Mark) (ts : List Token) (f : First ts) → is_here mark ts ≡ true → f.tok.kind ≡ mark_kind mark
kind_of_mark mark ts f h = mark_told mark (sign_of f.tok.kind) f.tok.kind (ap (λ t. is_mark mark (sign_of t.kind)) (sym f.here) ∙ h) (tells f.tok.kind)

pub is_mark_of : (mark : Mark) (ts : List Token) (f : First ts) → is_here mark ts ≡ true → mark_phrase mark (f.tok ∷ [])
is_mark_of mark ts f h = is_some_one f.tok (mark_kind mark) (kind_of_mark mark ts f h)

-- the token stands at the place that was noted
pub one_here : (ts : List Token) (f : First ts) (k : TokenKind) → f.tok.kind ≡ k → one (pos_here ts) k (f.tok ∷ [])
one_here ts f k e = subst (λ t. one t.pos k (f.tok ∷ [])) (sym f.here) (is_one f.tok k e)

-- the token is taken
pub past : {B : Type 0} (phrase : B → Phrase) (behind : B → Blocks) (ts : List Token) (f : First ts) (g : List Token → Answer B) → Got (λ b ys. phrase b (f.tok ∷ ys)) behind f.rest (g f.rest) → Got phrase behind ts (g (after_token ts))
past phrase behind ts f g h = subst (λ r. Got phrase behind ts (g r)) (sym f.behind) (shift phrase behind (f.tok ∷ []) f.rest ts (g f.rest) f.tokens_are h)

seq_mark_by : {B : Type 0} (mark : Mark) (phrase : B → Phrase) (behind : B → Blocks) (scope : Blocks) (ts : List Token) (f : List Token × Blocks → Answer B) (b : Bool) → is_here mark ts ≡ b → is_mark mark signs.End ≡ false → EndsIn ts
    → ((tok : Token) (rest : List Token) → mark_phrase mark (tok ∷ []) → EndsIn rest → Got (λ b ys. phrase b (tok ∷ ys)) behind rest (f (rest, scope)))
    → Got phrase behind ts ((if b then Ok (after_token ts, scope) else unexpected ts) >>= f)
seq_mark_by mark phrase behind scope ts f false e not ends k = tt
seq_mark_by mark phrase behind scope ts f true e not ends k =
    let first = first_of_mark mark ts not e ends in
    past phrase behind ts first (λ r. f (r, scope)) (k first.tok first.rest (is_mark_of mark ts first e) first.ends)

-- a token that is needed, and then a reading
pub seq_mark : {B : Type 0} (mark : Mark) (phrase : B → Phrase) (behind : B → Blocks) (scope : Blocks) (ts : List Token) (f : List Token × Blocks → Answer B) → is_mark mark signs.End ≡ false → EndsIn ts
    → ((tok : Token) (rest : List Token) → mark_phrase mark (tok ∷ []) → EndsIn rest → Got (λ b ys. phrase b (tok ∷ ys)) behind rest (f (rest, scope)))
    → Got phrase behind ts (expected mark scope ts >>= f)
seq_mark mark phrase behind scope ts f not ends k = seq_mark_by mark phrase behind scope ts f (is_here mark ts) refl not ends k
