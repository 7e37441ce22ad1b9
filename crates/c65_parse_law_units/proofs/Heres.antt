-- The token that stands at the front of others.
use Rattle.std.proofs.Common.{◌≡◌, ◌≤◌, List, [], ◌∷◌, ◌++◌, length, Bool, true, false, refl, sym, ap, ◌∙◌, subst, arith}
use Rattle.std.specs.Prelude.{if◌then◌else◌, Result, Ok}
use Rattle.c65_base.specs.Answers.{Fault, ◌>>=◌}
use Rattle.c65_base.specs.declared.names.Name.{Name}
use Rattle.c65_base.specs.declared.operators.StepKind.TheVariants as step_kinds
use Rattle.c65_base.specs.declared.refusal.Pos.{Pos}
use Rattle.c65_scan.specs.declared.token.Keyword.TheVariants as keywords
use Rattle.c65_scan.specs.declared.token.Punct.TheVariants as puncts
use Rattle.c65_scan.specs.declared.token.Token.{Token}
use Rattle.c65_scan.specs.declared.token.TokenKind.{TokenKind}
use Rattle.c65_scan.specs.declared.token.TokenKind.TheVariants as kinds
use Rattle.c65_tree.specs.Trees as t
use Rattle.c65_parse_names.specs.Scopes.{Blocks}
use Rattle.c65_parse.specs.Reading.{token_at, after_token}
use Rattle.c65_parse_frames.specs.declared.sign.Sign.TheVariants as signs
use Rattle.c65_parse_frames.specs.declared.sign.Mark.{Mark}
use Rattle.c65_parse_frames.specs.Signs.{sign_of, is_mark}
use Rattle.c65_decl.specs.Here.{is_here, unexpected, expected}
use Rattle.c65_parse_grammar.specs.Spellings.{unary_punct}
use Rattle.c65_parse_grammar.specs.Parts.{start}
use Rattle.c65_parse_grammar.specs.Scopes.{Scope}
use Rattle.c65_parse_grammar.specs.Expressions as g
use Rattle.c65_parse_law_trees.proofs.Firsts.{Opens, opens_one, opens_mark, opens_more, OperandKind, Operand}

-- some tokens
abbrev pub Left : List Token → Type 0
Left [] = ⊥
Left (tok ∷ ts) = Unit {0}

pub left_more : (xs rest : List Token) → Left rest → Left (xs ++ rest)
left_more [] rest h = h
left_more (x ∷ xs) rest h = tt

pub here_is : (tok : Token) (ts : List Token) → token_at (tok ∷ ts) 0 ≡ tok
here_is tok [] = refl
here_is tok (u ∷ ts) = refl

pub passed : (tok : Token) (ts : List Token) → Left ts → after_token (tok ∷ ts) ≡ ts
passed tok [] h = absurd h
passed tok (u ∷ ts) h = refl

pub is_here_is : (mark : Mark) (tok : Token) (ts : List Token) → is_here mark (tok ∷ ts) ≡ is_mark mark (sign_of tok.kind)
is_here_is mark tok ts = ap (λ x. is_mark mark (sign_of x.kind)) (here_is tok ts)

pub opens_here : (P : Token → Type 0) (xs rest : List Token) → Opens P xs → P (token_at (xs ++ rest) 0)
opens_here P xs rest o = subst (λ ts. P (token_at (ts ++ rest) 0)) (sym o.are) (subst P (sym (here_is o.first (o.others ++ rest))) o.it)

-- one reading, and then another
pub next : {A B : Type 0} (r : Result A Fault) (a : A) (f : A → Result B Fault) (d : Result B Fault) → r ≡ Ok a → f a ≡ d → (r >>= f) ≡ d
next r a f d h k = ap (λ x. x >>= f) h ∙ k

pub when : {A : Type 0} (b : Bool) (x y : A) → b ≡ true → (if b then x else y) ≡ x
when b x y h = ap (λ c. if c then x else y) h

pub unless : {A : Type 0} (b : Bool) (x y : A) → b ≡ false → (if b then x else y) ≡ y
unless b x y h = ap (λ c. if c then x else y) h

-- a mark that is needed
pub expected_is : (mark : Mark) (scope : Blocks) (tok : Token) (ts : List Token) → is_mark mark (sign_of tok.kind) ≡ true → Left ts → expected mark scope (tok ∷ ts) ≡ Ok (ts, scope)
expected_is mark scope tok ts h left = when (is_here mark (tok ∷ ts)) (Ok (after_token (tok ∷ ts), scope)) (unexpected (tok ∷ ts)) (is_here_is mark tok ts ∙ h) ∙ ap (λ x. Ok (x, scope)) (passed tok ts left)

-- a mark with which no expression begins
pub record Differs (mark : Mark) : Type 0 where
  pub name : (n : Name) → is_mark mark (signs.Name n) ≡ false
  pub operand : is_mark mark signs.Operand ≡ false
  pub paren : is_mark mark signs.OpenParen ≡ false

pub no_mark : (mark : Mark) → Differs mark → (sc : Scope) (k : TokenKind) → OperandKind sc k → is_mark mark (sign_of k) ≡ false
no_mark mark d sc (kinds.Name n) h = d.name n
no_mark mark d sc (kinds.Number ty n) h = d.operand
no_mark mark d sc (kinds.Text bs) h = d.operand
no_mark mark d sc (kinds.Keyword keywords.Sizeof) h = d.operand
no_mark mark d sc (kinds.Punct puncts.OpenParen) h = d.paren
no_mark mark d sc (kinds.Punct puncts.Star) h = d.operand
no_mark mark d sc (kinds.Punct puncts.Plus) h = d.operand
no_mark mark d sc (kinds.Punct puncts.Minus) h = d.operand
no_mark mark d sc (kinds.Punct puncts.Tilde) h = d.operand
no_mark mark d sc (kinds.Punct puncts.Exclamation) h = d.operand
no_mark mark d sc (kinds.Punct puncts.Ampersand) h = d.operand
no_mark mark d sc (kinds.Punct puncts.PlusPlus) h = d.operand
no_mark mark d sc (kinds.Punct puncts.MinusMinus) h = d.operand
no_mark mark d sc (kinds.Keyword _) h = absurd h
no_mark mark d sc (kinds.Punct _) h = absurd h
no_mark mark d sc kinds.End h = absurd h

-- no such mark where an expression stands
pub not_here : (mark : Mark) (sc : Scope) (xs rest : List Token) → Differs mark → Opens (Operand sc) xs → is_here mark (xs ++ rest) ≡ false
not_here mark sc xs rest d o = no_mark mark d sc (token_at (xs ++ rest) 0).kind (opens_here (Operand sc) xs rest o)

-- the place of an expression is that of its first token
abbrev At : Pos → Token → Type 0
At l tok = tok.pos ≡ l

pub starts_expr : (e : t.ExprTree) (sc : Scope) (xs : List Token) → g.expr sc e xs → Opens (At (start e)) xs
starts_expr (t.name l n) sc xs p = opens_one (At l) l (kinds.Name n) xs p.1 refl
starts_expr (t.number l ty n) sc xs p = opens_one (At l) l (kinds.Number ty n) xs p refl
starts_expr (t.text l bs) sc xs p = opens_one (At l) l (kinds.Text bs) xs p refl
starts_expr (t.paren l e) sc xs p = opens_mark (At l) l (kinds.Punct puncts.OpenParen) xs p.0 p.1 p.2 p.3 refl
starts_expr (t.index l a i) sc xs p = opens_more (At (start a)) xs p.0 p.1 p.2 (starts_expr a sc p.0 p.3.1)
starts_expr (t.call l f es) sc xs p = opens_more (At (start f)) xs p.0 p.1 p.2 (starts_expr f sc p.0 p.3.1)
starts_expr (t.member l e arrow n) sc xs p = opens_more (At (start e)) xs p.0 p.1 p.2 (starts_expr e sc p.0 p.3.1)
starts_expr (t.step l step_kinds.PreInc e) sc xs p = opens_mark (At l) l (kinds.Punct puncts.PlusPlus) xs p.0 p.1 p.2 p.3 refl
starts_expr (t.step l step_kinds.PreDec e) sc xs p = opens_mark (At l) l (kinds.Punct puncts.MinusMinus) xs p.0 p.1 p.2 p.3 refl
starts_expr (t.step l step_kinds.PostInc e) sc xs p = opens_more (At (start e)) xs p.0 p.1 p.2 (starts_expr e sc p.0 p.3.1)
starts_expr (t.step l step_kinds.PostDec e) sc xs p = opens_more (At (start e)) xs p.0 p.1 p.2 (starts_expr e sc p.0 p.3.1)
starts_expr (t.unary l op e) sc xs p = opens_mark (At l) l (kinds.Punct (unary_punct op)) xs p.0 p.1 p.2 p.3 refl
starts_expr (t.sizeof_expr l e) sc xs p = opens_mark (At l) l (kinds.Keyword keywords.Sizeof) xs p.0 p.1 p.2 p.3 refl
starts_expr (t.sizeof_type l ty) sc xs p = opens_mark (At l) l (kinds.Keyword keywords.Sizeof) xs p.0 p.1 p.2 p.3 refl
starts_expr (t.cast l ty e) sc xs p = opens_mark (At l) l (kinds.Punct puncts.OpenParen) xs p.0 p.1 p.2 p.3 refl
starts_expr (t.binary l op a b) sc xs p = opens_more (At (start a)) xs p.0 p.1 p.2 (starts_expr a sc p.0 p.3.1)
starts_expr (t.and_also l a b) sc xs p = opens_more (At (start a)) xs p.0 p.1 p.2 (starts_expr a sc p.0 p.3.1)
starts_expr (t.or_else l a b) sc xs p = opens_more (At (start a)) xs p.0 p.1 p.2 (starts_expr a sc p.0 p.3.1)
starts_expr (t.conditional l c a b) sc xs p = opens_more (At (start c)) xs p.0 p.1 p.2 (starts_expr c sc p.0 p.3.1)
starts_expr (t.assign l op a b) sc xs p = opens_more (At (start a)) xs p.0 p.1 p.2 (starts_expr a sc p.0 p.3.1)
starts_expr (t.comma l a b) sc xs p = opens_more (At (start a)) xs p.0 p.1 p.2 (starts_expr a sc p.0 p.3)

pub opens_long : (P : Token → Type 0) (xs : List Token) → Opens P xs → 1 ≤ length xs
opens_long P xs o = subst (λ ts. 1 ≤ length ts) (sym o.are) (omega arith)
