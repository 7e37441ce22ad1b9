-- With which tokens trees begin.
use Rattle.std.proofs.Common.{◌≡◌, ◌≤◌, List, [], ◌∷◌, ◌++◌, Bool, true, false, refl, sym, ap, ◌∙◌, subst, arith}
use Rattle.std.specs.Prelude.{Some}
use Rattle.c65_base.specs.declared.names.Name.{Name}
use Rattle.c65_base.specs.declared.operators.StepKind.TheVariants as step_kinds
use Rattle.c65_base.specs.declared.operators.UnaryOp.{UnaryOp}
use Rattle.c65_base.specs.declared.operators.UnaryOp.TheVariants as unaries
use Rattle.c65_base.specs.declared.refusal.Pos.{Pos}
use Rattle.c65_scan.specs.declared.token.Keyword.TheVariants as keywords
use Rattle.c65_scan.specs.declared.token.Punct.TheVariants as puncts
use Rattle.c65_scan.specs.declared.token.Token.{Token}
use Rattle.c65_scan.specs.declared.token.TokenKind.{TokenKind}
use Rattle.c65_scan.specs.declared.token.TokenKind.TheVariants as kinds
use Rattle.c65_tree.specs.declared.expr.Storage.{Storage}
use Rattle.c65_tree.specs.declared.expr.Storage.TheVariants as storages
use Rattle.c65_tree.specs.Trees as t
use Rattle.c65_tree.specs.Depth.{expr_depth}
use Rattle.c65_parse_trees.specs.declared.sign.Sign.{Sign}
use Rattle.c65_parse_trees.specs.declared.sign.Sign.TheVariants as signs
use Rattle.c65_parse_trees.specs.Signs.{sign_of_kind, sign_of_keyword, begins_type, begins_specifiers}
use Rattle.c65_parse_grammar.specs.Phrases.{token, one}
use Rattle.c65_parse_grammar.specs.Spellings.{unary_punct, storage_keyword, word_keyword, tag_keyword, calling_keyword}
use Rattle.c65_parse_grammar.specs.Parts.{level, is_empty_list, is_nameless, declarator_start, first_name}
use Rattle.c65_parse_grammar.specs.Scopes.{Scope}
use Rattle.c65_parse_grammar.specs.Expressions as g
use Rattle.c65_parse_law_trees.proofs.Runs.{First}
use Rattle.c65_parse_law_alike.proofs.Alike.{low_binary, expr_deep}

pub record Opens (P : Token → Type 0) (xs : List Token) : Type 0 where
  pub first : Token
  pub others : List Token
  pub are : xs ≡ first ∷ others
  pub it : P first

pub opens_first : (P : Token → Type 0) (xs rest : List Token) → Opens P xs → First P (xs ++ rest)
opens_first P xs rest o = subst (λ ts. First P (ts ++ rest)) (sym o.are) o.it

pub opens_more : (P : Token → Type 0) (xs ys zs : List Token) → xs ≡ ys ++ zs → Opens P ys → Opens P xs
opens_more P xs ys zs e o = record { first = o.first; others = o.others ++ zs; are = e ∙ ap (λ ts. ts ++ zs) o.are; it = o.it }

pub opens_one : (P : Token → Type 0) (l : Pos) (k : TokenKind) (xs : List Token) → one l k xs → P (token k l) → Opens P xs
opens_one P l k xs e h = record { first = token k l; others = []; are = e; it = h }

pub opens_mark : (P : Token → Type 0) (l : Pos) (k : TokenKind) (xs ys zs : List Token) → xs ≡ ys ++ zs → one l k ys → P (token k l) → Opens P xs
opens_mark P l k xs ys zs e o h = opens_more P xs ys zs e (opens_one P l k ys o h)

pub opens_map : (P Q : Token → Type 0) (xs : List Token) → ((tok : Token) → P tok → Q tok) → Opens P xs → Opens Q xs
opens_map P Q xs f o = record { first = o.first; others = o.others; are = o.are; it = f o.first o.it }

-- a token with which an expression begins
abbrev pub OperandKind : Scope → TokenKind → Type 0
OperandKind sc (kinds.Name n) = sc n ≡ false
OperandKind sc (kinds.Number ty n) = Unit {0}
OperandKind sc (kinds.Text bs) = Unit {0}
OperandKind sc (kinds.Keyword keywords.Sizeof) = Unit {0}
OperandKind sc (kinds.Punct puncts.OpenParen) = Unit {0}
OperandKind sc (kinds.Punct puncts.Star) = Unit {0}
OperandKind sc (kinds.Punct puncts.Plus) = Unit {0}
OperandKind sc (kinds.Punct puncts.Minus) = Unit {0}
OperandKind sc (kinds.Punct puncts.Tilde) = Unit {0}
OperandKind sc (kinds.Punct puncts.Exclamation) = Unit {0}
OperandKind sc (kinds.Punct puncts.Ampersand) = Unit {0}
OperandKind sc (kinds.Punct puncts.PlusPlus) = Unit {0}
OperandKind sc (kinds.Punct puncts.MinusMinus) = Unit {0}
OperandKind sc _ = ⊥

abbrev pub Operand : Scope → Token → Type 0
Operand sc tok = OperandKind sc tok.kind

unary_operand : (sc : Scope) (op : UnaryOp) → OperandKind sc (kinds.Punct (unary_punct op))
unary_operand sc unaries.Neg = tt
unary_operand sc unaries.Plus = tt
unary_operand sc unaries.BitNot = tt
unary_operand sc unaries.Not = tt
unary_operand sc unaries.Deref = tt
unary_operand sc unaries.Address = tt

pub begins_expr : (e : t.ExprTree) (sc : Scope) (xs : List Token) → g.expr sc e xs → Opens (Operand sc) xs
begins_expr (t.name l n) sc xs p = opens_one (Operand sc) l (kinds.Name n) xs p.1 p.0
begins_expr (t.number l ty n) sc xs p = opens_one (Operand sc) l (kinds.Number ty n) xs p tt
begins_expr (t.text l bs) sc xs p = opens_one (Operand sc) l (kinds.Text bs) xs p tt
begins_expr (t.paren l e) sc xs p = opens_mark (Operand sc) l (kinds.Punct puncts.OpenParen) xs p.0 p.1 p.2 p.3 tt
begins_expr (t.index l a i) sc xs p = opens_more (Operand sc) xs p.0 p.1 p.2 (begins_expr a sc p.0 p.3.1)
begins_expr (t.call l f es) sc xs p = opens_more (Operand sc) xs p.0 p.1 p.2 (begins_expr f sc p.0 p.3.1)
begins_expr (t.member l e arrow n) sc xs p = opens_more (Operand sc) xs p.0 p.1 p.2 (begins_expr e sc p.0 p.3.1)
begins_expr (t.step l step_kinds.PreInc e) sc xs p = opens_mark (Operand sc) l (kinds.Punct puncts.PlusPlus) xs p.0 p.1 p.2 p.3 tt
begins_expr (t.step l step_kinds.PreDec e) sc xs p = opens_mark (Operand sc) l (kinds.Punct puncts.MinusMinus) xs p.0 p.1 p.2 p.3 tt
begins_expr (t.step l step_kinds.PostInc e) sc xs p = opens_more (Operand sc) xs p.0 p.1 p.2 (begins_expr e sc p.0 p.3.1)
begins_expr (t.step l step_kinds.PostDec e) sc xs p = opens_more (Operand sc) xs p.0 p.1 p.2 (begins_expr e sc p.0 p.3.1)
begins_expr (t.unary l op e) sc xs p = opens_mark (Operand sc) l (kinds.Punct (unary_punct op)) xs p.0 p.1 p.2 p.3 (unary_operand sc op)
begins_expr (t.sizeof_expr l e) sc xs p = opens_mark (Operand sc) l (kinds.Keyword keywords.Sizeof) xs p.0 p.1 p.2 p.3 tt
begins_expr (t.sizeof_type l ty) sc xs p = opens_mark (Operand sc) l (kinds.Keyword keywords.Sizeof) xs p.0 p.1 p.2 p.3 tt
begins_expr (t.cast l ty e) sc xs p = opens_mark (Operand sc) l (kinds.Punct puncts.OpenParen) xs p.0 p.1 p.2 p.3 tt
begins_expr (t.binary l op a b) sc xs p = opens_more (Operand sc) xs p.0 p.1 p.2 (begins_expr a sc p.0 p.3.1)
begins_expr (t.and_also l a b) sc xs p = opens_more (Operand sc) xs p.0 p.1 p.2 (begins_expr a sc p.0 p.3.1)
begins_expr (t.or_else l a b) sc xs p = opens_more (Operand sc) xs p.0 p.1 p.2 (begins_expr a sc p.0 p.3.1)
begins_expr (t.conditional l c a b) sc xs p = opens_more (Operand sc) xs p.0 p.1 p.2 (begins_expr c sc p.0 p.3.1)
begins_expr (t.assign l op a b) sc xs p = opens_more (Operand sc) xs p.0 p.1 p.2 (begins_expr a sc p.0 p.3.1)
begins_expr (t.comma l a b) sc xs p = opens_more (Operand sc) xs p.0 p.1 p.2 (begins_expr a sc p.0 p.3)

-- each tree has a node
-- a parenthesis at the start of a unary expression holds an expression, and no type name
pub record Tight (sc : Scope) (e : t.ExprTree) (xs : List Token) : Type 0 where
  pub first : Token
  pub others : List Token
  pub are : xs ≡ first ∷ others
  pub it : Operand sc first
  pub held : first.kind ≡ kinds.Punct puncts.OpenParen → Opens (Operand sc) others × (2 ≤ expr_depth e)

tight_more : (sc : Scope) (a e : t.ExprTree) (xs ys zs : List Token) → xs ≡ ys ++ zs → 2 ≤ expr_depth e → Tight sc a ys → Tight sc e xs
tight_more sc a tree xs ys zs e deep o = record { first = o.first; others = o.others ++ zs; are = e ∙ ap (λ ts. ts ++ zs) o.are; it = o.it; held = λ h. (opens_more (Operand sc) (o.others ++ zs) o.others zs refl (o.held h).0, deep) }

tight_one : (sc : Scope) (e : t.ExprTree) (l : Pos) (k : TokenKind) (xs ys zs : List Token) → xs ≡ ys ++ zs → one l k ys → OperandKind sc k → (k ≡ kinds.Punct puncts.OpenParen → ⊥) → Tight sc e xs
tight_one sc tree l k xs ys zs e o h other = record { first = token k l; others = zs; are = e ∙ ap (λ ts. ts ++ zs) o; it = h; held = λ q. absurd (other q) }

no_paren : (op : UnaryOp) → kinds.Punct (unary_punct op) ≡ kinds.Punct puncts.OpenParen → ⊥
no_paren unaries.Neg e = cc
no_paren unaries.Plus e = cc
no_paren unaries.BitNot e = cc
no_paren unaries.Not e = cc
no_paren unaries.Deref e = cc
no_paren unaries.Address e = cc

pub append_nothing : (xs : List Token) → xs ≡ xs ++ []
append_nothing [] = refl
append_nothing (x ∷ xs) = ap (λ ts. x ∷ ts) (append_nothing xs)

pub begins_tight : (e : t.ExprTree) (sc : Scope) (xs : List Token) → 14 ≤ level e → g.expr sc e xs → Tight sc e xs
begins_tight (t.name l n) sc xs h p = tight_one sc (t.name l n) l (kinds.Name n) xs xs [] (append_nothing xs) p.1 p.0 (λ e. cc)
begins_tight (t.number l ty n) sc xs h p = tight_one sc (t.number l ty n) l (kinds.Number ty n) xs xs [] (append_nothing xs) p tt (λ e. cc)
begins_tight (t.text l bs) sc xs h p = tight_one sc (t.text l bs) l (kinds.Text bs) xs xs [] (append_nothing xs) p tt (λ e. cc)
begins_tight (t.paren l e) sc xs h p = record { first = token (kinds.Punct puncts.OpenParen) l; others = p.1; are = p.2 ∙ ap (λ ts. ts ++ p.1) p.3; it = tt; held = λ q. (opens_more (Operand sc) p.1 p.4.0 p.4.1 p.4.2 (begins_expr e sc p.4.0 p.4.3), let deep = expr_deep e in omega (arith, deep)) }
begins_tight (t.index l a i) sc xs h p = let high = p.3.0 in let deep = expr_deep a in tight_more sc a (t.index l a i) xs p.0 p.1 p.2 (omega (arith, deep)) (begins_tight a sc p.0 (omega (arith, high)) p.3.1)
begins_tight (t.call l f es) sc xs h p = let high = p.3.0 in let deep = expr_deep f in tight_more sc f (t.call l f es) xs p.0 p.1 p.2 (omega (arith, deep)) (begins_tight f sc p.0 (omega (arith, high)) p.3.1)
begins_tight (t.member l e arrow n) sc xs h p = let high = p.3.0 in let deep = expr_deep e in tight_more sc e (t.member l e arrow n) xs p.0 p.1 p.2 (omega (arith, deep)) (begins_tight e sc p.0 (omega (arith, high)) p.3.1)
begins_tight (t.step l step_kinds.PreInc e) sc xs h p = tight_one sc (t.step l step_kinds.PreInc e) l (kinds.Punct puncts.PlusPlus) xs p.0 p.1 p.2 p.3 tt (λ e. cc)
begins_tight (t.step l step_kinds.PreDec e) sc xs h p = tight_one sc (t.step l step_kinds.PreDec e) l (kinds.Punct puncts.MinusMinus) xs p.0 p.1 p.2 p.3 tt (λ e. cc)
begins_tight (t.step l step_kinds.PostInc e) sc xs h p = let high = p.3.0 in let deep = expr_deep e in tight_more sc e (t.step l step_kinds.PostInc e) xs p.0 p.1 p.2 (omega (arith, deep)) (begins_tight e sc p.0 (omega (arith, high)) p.3.1)
begins_tight (t.step l step_kinds.PostDec e) sc xs h p = let high = p.3.0 in let deep = expr_deep e in tight_more sc e (t.step l step_kinds.PostDec e) xs p.0 p.1 p.2 (omega (arith, deep)) (begins_tight e sc p.0 (omega (arith, high)) p.3.1)
begins_tight (t.unary l op e) sc xs h p = tight_one sc (t.unary l op e) l (kinds.Punct (unary_punct op)) xs p.0 p.1 p.2 p.3 (unary_operand sc op) (no_paren op)
begins_tight (t.sizeof_expr l e) sc xs h p = tight_one sc (t.sizeof_expr l e) l (kinds.Keyword keywords.Sizeof) xs p.0 p.1 p.2 p.3 tt (λ e. cc)
begins_tight (t.sizeof_type l ty) sc xs h p = tight_one sc (t.sizeof_type l ty) l (kinds.Keyword keywords.Sizeof) xs p.0 p.1 p.2 p.3 tt (λ e. cc)
begins_tight (t.cast l ty e) sc xs h p = absurd (omega (arith, h))
begins_tight (t.binary l op a b) sc xs h p = absurd (let k = low_binary op in omega (arith, h, k))
begins_tight (t.and_also l a b) sc xs h p = absurd (omega (arith, h))
begins_tight (t.or_else l a b) sc xs h p = absurd (omega (arith, h))
begins_tight (t.conditional l c a b) sc xs h p = absurd (omega (arith, h))
begins_tight (t.assign l op a b) sc xs h p = absurd (omega (arith, h))
begins_tight (t.comma l a b) sc xs h p = absurd (omega (arith, h))

-- the signs of such tokens
abbrev pub OperandSign : Sign → Type 0
OperandSign (signs.Name n is_type) = is_type ≡ false
OperandSign signs.Literal = Unit {0}
OperandSign signs.Sizeof = Unit {0}
OperandSign signs.Open = Unit {0}
OperandSign signs.Star = Unit {0}
OperandSign (signs.Unary op) = Unit {0}
OperandSign (signs.Either op between) = Unit {0}
OperandSign (signs.Step down) = Unit {0}
OperandSign _ = ⊥

pub operand_sign : (sc : Scope) (k : TokenKind) → OperandKind sc k → OperandSign (sign_of_kind sc k)
operand_sign sc (kinds.Name n) h = h
operand_sign sc (kinds.Number ty n) h = tt
operand_sign sc (kinds.Text bs) h = tt
operand_sign sc (kinds.Keyword keywords.Sizeof) h = tt
operand_sign sc (kinds.Punct puncts.OpenParen) h = tt
operand_sign sc (kinds.Punct puncts.Star) h = tt
operand_sign sc (kinds.Punct puncts.Plus) h = tt
operand_sign sc (kinds.Punct puncts.Minus) h = tt
operand_sign sc (kinds.Punct puncts.Tilde) h = tt
operand_sign sc (kinds.Punct puncts.Exclamation) h = tt
operand_sign sc (kinds.Punct puncts.Ampersand) h = tt
operand_sign sc (kinds.Punct puncts.PlusPlus) h = tt
operand_sign sc (kinds.Punct puncts.MinusMinus) h = tt
operand_sign sc (kinds.Keyword _) h = absurd h
operand_sign sc (kinds.Punct _) h = absurd h
operand_sign sc kinds.End h = absurd h

pub no_type : (s : Sign) → OperandSign s → begins_type s ≡ false
no_type (signs.Name n is_type) h = h
no_type signs.Literal h = refl
no_type signs.Sizeof h = refl
no_type signs.Open h = refl
no_type signs.Star h = refl
no_type (signs.Unary op) h = refl
no_type (signs.Either op between) h = refl
no_type (signs.Step down) h = refl
no_type _ h = absurd h

-- a token with which specifiers begin, a storage class among them or not
abbrev pub begins_with : Bool → Sign → Bool
begins_with true s = begins_specifiers s
begins_with false s = begins_type s

abbrev pub Specifies : Bool → Scope → Token → Type 0
Specifies storage sc tok = begins_with storage (sign_of_kind sc tok.kind) ≡ true

storage_specifies : (sc : Scope) (c : Storage) → begins_specifiers (sign_of_keyword (storage_keyword c)) ≡ true
storage_specifies sc storages.Typedef = refl
storage_specifies sc storages.Extern = refl
storage_specifies sc storages.Static = refl
storage_specifies sc storages.Auto = refl
storage_specifies sc storages.Register = refl

word_specifies : (storage : Bool) (w : t.Word) → begins_with storage (sign_of_keyword (word_keyword w)) ≡ true
word_specifies true t.const = refl
word_specifies true t.volatile = refl
word_specifies true t.void = refl
word_specifies true t.char = refl
word_specifies true t.short = refl
word_specifies true t.int = refl
word_specifies true t.long = refl
word_specifies true t.float = refl
word_specifies true t.double = refl
word_specifies true t.signed = refl
word_specifies true t.unsigned = refl
word_specifies false t.const = refl
word_specifies false t.volatile = refl
word_specifies false t.void = refl
word_specifies false t.char = refl
word_specifies false t.short = refl
word_specifies false t.int = refl
word_specifies false t.long = refl
word_specifies false t.float = refl
word_specifies false t.double = refl
word_specifies false t.signed = refl
word_specifies false t.unsigned = refl

tag_specifies : (storage union : Bool) → begins_with storage (sign_of_keyword (tag_keyword union)) ≡ true
tag_specifies true true = refl
tag_specifies true false = refl
tag_specifies false true = refl
tag_specifies false false = refl

enum_specifies : (storage : Bool) → begins_with storage (sign_of_keyword keywords.Enum) ≡ true
enum_specifies true = refl
enum_specifies false = refl

name_specifies : (storage is_type : Bool) (n : Name) → is_type ≡ true → begins_with storage (signs.Name n is_type) ≡ true
name_specifies true is_type n h = h
name_specifies false is_type n h = h

-- a keyword or a name
abbrev pub Worded : Token → Type 0
Worded tok = elim tok.kind as (λ _. Type 0) [
  | kinds.Keyword k ↦ Unit {0}
  | kinds.Name n ↦ Unit {0}
  | _ ↦ ⊥
]

pub begins_specifier : (q : t.SpecifierTree) (sc : Scope) (storage typed : Bool) (xs : List Token) → g.specifier sc storage typed q xs → Opens (λ tok. Specifies storage sc tok × Worded tok) xs
begins_specifier (t.storage l c) sc true typed xs p = opens_one _ l (kinds.Keyword (storage_keyword c)) xs p.1 (storage_specifies sc c, tt)
begins_specifier (t.storage l c) sc false typed xs p = absurd (let e = p.0 in cc)
begins_specifier (t.word l w) sc storage typed xs p = opens_one _ l (kinds.Keyword (word_keyword w)) xs p (word_specifies storage w, tt)
begins_specifier (t.typedef_name l n) sc storage typed xs p = opens_one _ l (kinds.Name n) xs p.1 (name_specifies storage (sc n) n p.0.1, tt)
begins_specifier (t.tagged l union tag ms) sc storage typed xs p = opens_mark _ l (kinds.Keyword (tag_keyword union)) xs p.0 p.1 p.2 p.3 (tag_specifies storage union, tt)
begins_specifier (t.enum l tag es) sc storage typed xs p = opens_mark _ l (kinds.Keyword keywords.Enum) xs p.0 p.1 p.2 p.3 (enum_specifies storage, tt)

pub begins_list : (qs : t.SpecifierList) (sc : Scope) (storage : Bool) (xs : List Token) → is_empty_list qs ≡ false → g.specifier_list sc storage qs xs → Opens (Specifies storage sc) xs
begins_list t.no_specifiers sc storage xs e p = absurd cc
begins_list (t.and_specifier t.no_specifiers q) sc storage xs e p = opens_more (Specifies storage sc) xs p.1 [] (p.2 ∙ (ap (λ ts. ts ++ p.1) p.3 ∙ append_nothing p.1)) (opens_map _ (Specifies storage sc) p.1 (λ tok h. h.0) (begins_specifier q sc storage false p.1 p.4))
begins_list (t.and_specifier (t.and_specifier qs r) q) sc storage xs e p = opens_more (Specifies storage sc) xs p.0 p.1 p.2 (begins_list (t.and_specifier qs r) sc storage p.0 refl p.3)

-- a token with which a declarator begins that is not empty
abbrev pub DeclaratorKind : g.Sort → Scope → t.DeclaratorTree → TokenKind → Type 0
DeclaratorKind s sc d (kinds.Name n) = (g.takes_name s (sc n) ≡ true) × (first_name d ≡ Some n)
DeclaratorKind s sc d (kinds.Keyword keywords.FastCall) = Unit {0}
DeclaratorKind s sc d (kinds.Keyword keywords.CDecl) = Unit {0}
DeclaratorKind s sc d (kinds.Punct puncts.Star) = Unit {0}
DeclaratorKind s sc d (kinds.Punct puncts.OpenParen) = Unit {0}
DeclaratorKind s sc d (kinds.Punct puncts.OpenBracket) = Unit {0}
DeclaratorKind s sc d _ = ⊥

abbrev pub Declares : g.Sort → Scope → t.DeclaratorTree → Token → Type 0
Declares s sc d tok = DeclaratorKind s sc d tok.kind × (tok.pos ≡ declarator_start d)

same_first_by : (s : g.Sort) (sc : Scope) (d e : t.DeclaratorTree) (k : TokenKind) → first_name d ≡ first_name e → DeclaratorKind s sc d k → DeclaratorKind s sc e k
same_first_by s sc d e (kinds.Name n) q h = (h.0, sym q ∙ h.1)
same_first_by s sc d e (kinds.Keyword keywords.FastCall) q h = tt
same_first_by s sc d e (kinds.Keyword keywords.CDecl) q h = tt
same_first_by s sc d e (kinds.Keyword _) q h = absurd h
same_first_by s sc d e (kinds.Punct puncts.Star) q h = tt
same_first_by s sc d e (kinds.Punct puncts.OpenParen) q h = tt
same_first_by s sc d e (kinds.Punct puncts.OpenBracket) q h = tt
same_first_by s sc d e (kinds.Punct _) q h = absurd h
same_first_by s sc d e (kinds.Number ty n) q h = absurd h
same_first_by s sc d e (kinds.Text bs) q h = absurd h
same_first_by s sc d e kinds.End q h = absurd h

same_first : (s : g.Sort) (sc : Scope) (d e : t.DeclaratorTree) (tok : Token) → first_name d ≡ first_name e → declarator_start d ≡ declarator_start e → Declares s sc d tok → Declares s sc e tok
same_first s sc d e tok q r h = (same_first_by s sc d e tok.kind q h.0, h.1 ∙ r)

calling_declares : (s : g.Sort) (sc : Scope) (d : t.DeclaratorTree) (cdecl : Bool) → DeclaratorKind s sc d (kinds.Keyword (calling_keyword cdecl))
calling_declares s sc d true = tt
calling_declares s sc d false = tt

opens_behind : (P : Token → Type 0) (l : Pos) (k : TokenKind) (xs ys zs us vs : List Token) → xs ≡ ys ++ zs → ys ≡ [] → zs ≡ us ++ vs → one l k us → P (token k l) → Opens P xs
opens_behind P l k xs ys zs us vs e nothing f o h = opens_mark P l k xs us vs (e ∙ (ap (λ ts. ts ++ zs) nothing ∙ f)) o h

pub begins_declarator : (d : t.DeclaratorTree) (s : g.Sort) (sc : Scope) (m : Pos) (xs : List Token) → is_nameless d ≡ false → g.declarator s sc m d xs → Opens (Declares s sc d) xs
begins_declarator (t.nameless l) s sc m xs e p = absurd cc
begins_declarator (t.named l n) s sc m xs e p = opens_one (Declares s sc (t.named l n)) l (kinds.Name n) xs p.1 ((p.0, refl), refl)
begins_declarator (t.grouped l d) s sc m xs e p = opens_mark (Declares s sc (t.grouped l d)) l (kinds.Punct puncts.OpenParen) xs p.1.0 p.1.1 p.1.2 p.1.3 (tt, refl)
begins_declarator (t.calling l cdecl d) s sc m xs e p = opens_mark (Declares s sc (t.calling l cdecl d)) l (kinds.Keyword (calling_keyword cdecl)) xs p.0 p.1 p.2 p.3 (calling_declares s sc (t.calling l cdecl d) cdecl, refl)
begins_declarator (t.pointer l c v d) s sc m xs e p = opens_mark (Declares s sc (t.pointer l c v d)) l (kinds.Punct puncts.Star) xs p.0 p.1 p.2 p.3 (tt, refl)
begins_declarator (t.array l (t.nameless k) n) s sc m xs e p = opens_behind (Declares s sc (t.array l (t.nameless k) n)) l (kinds.Punct puncts.OpenBracket) xs p.0 p.1 p.4.0 p.4.1 p.2 p.3.1.1 p.4.2 p.4.3 (tt, sym p.3.1.0.1)
begins_declarator (t.array l d n) s sc m xs e p = opens_more (Declares s sc (t.array l d n)) xs p.0 p.1 p.2 (opens_map (Declares s sc d) (Declares s sc (t.array l d n)) p.0 (λ tok h. same_first s sc d (t.array l d n) tok refl refl h) (begins_declarator d s sc l p.0 refl p.3.1))
begins_declarator (t.function l (t.nameless k) ps) s sc m xs e p = opens_behind (Declares s sc (t.function l (t.nameless k) ps)) l (kinds.Punct puncts.OpenParen) xs p.0 p.1 p.4.0 p.4.1 p.2 p.3.1.1 p.4.2 p.4.3 (tt, sym p.3.1.0.1)
begins_declarator (t.function l d ps) s sc m xs e p = opens_more (Declares s sc (t.function l d ps)) xs p.0 p.1 p.2 (opens_map (Declares s sc d) (Declares s sc (t.function l d ps)) p.0 (λ tok h. same_first s sc d (t.function l d ps) tok refl refl h) (begins_declarator d s sc l p.0 refl p.3.1))
