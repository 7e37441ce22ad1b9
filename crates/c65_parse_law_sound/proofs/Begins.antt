-- Where trees begin: at the place of their first token.
use Rattle.std.proofs.Common.{◌≡◌, List, [], ◌∷◌, ◌++◌, false, refl, sym, ◌∙◌, subst}
use Rattle.c65_base.specs.declared.operators.StepKind.TheVariants as steps
use Rattle.c65_base.specs.declared.refusal.Pos.{Pos}
use Rattle.c65_scan.specs.declared.token.Token.{Token}
use Rattle.c65_scan.specs.declared.token.TokenKind.{TokenKind}
use Rattle.c65_tree.specs.Trees as t
use Rattle.c65_parse.specs.Reading.{token_at}
use Rattle.c65_parse_grammar.specs.Phrases.{Phrase, ◌▸◌, one}
use Rattle.c65_parse_grammar.specs.Parts.{start, declarator_start}
use Rattle.c65_parse_grammar.specs.Scopes.{Scope}
use Rattle.c65_parse_grammar.specs.Expressions as g
use Rattle.c65_parse_grammar.specs.Expressions.{may_lack}
use Rattle.c65_parse_law_sound.proofs.Phrases.{true_false}

abbrev pub BeginsAt : Pos → List Token → Type 0
BeginsAt l [] = ⊥
BeginsAt l (t ∷ ts) = t.pos ≡ l

more_begins : (l : Pos) (xs ys : List Token) → BeginsAt l xs → BeginsAt l (xs ++ ys)
more_begins l [] ys h = absurd h
more_begins l (x ∷ xs) ys h = h

pub one_begins : (l : Pos) (k : TokenKind) (ts : List Token) → one l k ts → BeginsAt l ts
one_begins l k ts h = subst (BeginsAt l) (sym h) refl

pub first_begins : (A B : Phrase) (l : Pos) (ts : List Token) → ((xs : List Token) → A xs → BeginsAt l xs) → (A ▸ B) ts → BeginsAt l ts
first_begins A B l ts f p = subst (BeginsAt l) (sym p.2) (more_begins l p.0 p.1 (f p.0 p.3))

-- the place of the first of these tokens and others behind them
pub begins_here : (l : Pos) (xs ys : List Token) → BeginsAt l xs → (token_at (xs ++ ys) 0).pos ≡ l
begins_here l [] ys h = absurd h
begins_here l (x ∷ []) [] h = h
begins_here l (x ∷ []) (y ∷ ys) h = h
begins_here l (x ∷ z ∷ xs) ys h = h

pub expr_begins : (sc : Scope) (e : t.ExprTree) (ts : List Token) → g.expr sc e ts → BeginsAt (start e) ts
expr_begins sc (t.name l n) ts p = one_begins l _ ts p.1
expr_begins sc (t.number l ty n) ts p = one_begins l _ ts p
expr_begins sc (t.text l bs) ts p = one_begins l _ ts p
expr_begins sc (t.paren l e) ts p = first_begins _ _ l ts (one_begins l _) p
expr_begins sc (t.index l a i) ts p = first_begins _ _ (start a) ts (λ xs q. expr_begins sc a xs q.1) p
expr_begins sc (t.call l f es) ts p = first_begins _ _ (start f) ts (λ xs q. expr_begins sc f xs q.1) p
expr_begins sc (t.member l e arrow n) ts p = first_begins _ _ (start e) ts (λ xs q. expr_begins sc e xs q.1) p
expr_begins sc (t.step l steps.PreInc e) ts p = first_begins _ _ l ts (one_begins l _) p
expr_begins sc (t.step l steps.PreDec e) ts p = first_begins _ _ l ts (one_begins l _) p
expr_begins sc (t.step l steps.PostInc e) ts p = first_begins _ _ (start e) ts (λ xs q. expr_begins sc e xs q.1) p
expr_begins sc (t.step l steps.PostDec e) ts p = first_begins _ _ (start e) ts (λ xs q. expr_begins sc e xs q.1) p
expr_begins sc (t.unary l op e) ts p = first_begins _ _ l ts (one_begins l _) p
expr_begins sc (t.sizeof_expr l e) ts p = first_begins _ _ l ts (one_begins l _) p
expr_begins sc (t.sizeof_type l ty) ts p = first_begins _ _ l ts (one_begins l _) p
expr_begins sc (t.cast l ty e) ts p = first_begins _ _ l ts (one_begins l _) p
expr_begins sc (t.binary l op a b) ts p = first_begins _ _ (start a) ts (λ xs q. expr_begins sc a xs q.1) p
expr_begins sc (t.and_also l a b) ts p = first_begins _ _ (start a) ts (λ xs q. expr_begins sc a xs q.1) p
expr_begins sc (t.or_else l a b) ts p = first_begins _ _ (start a) ts (λ xs q. expr_begins sc a xs q.1) p
expr_begins sc (t.conditional l c a b) ts p = first_begins _ _ (start c) ts (λ xs q. expr_begins sc c xs q.1) p
expr_begins sc (t.assign l op a b) ts p = first_begins _ _ (start a) ts (λ xs q. expr_begins sc a xs q.1) p
expr_begins sc (t.comma l a b) ts p = first_begins _ _ (start a) ts (λ xs q. expr_begins sc a xs q) p

-- a declarator whose name must stand
pub declarator_begins : (s : g.Sort) (sc : Scope) (d : t.DeclaratorTree) (l : Pos) (ts : List Token) → may_lack s ≡ false → g.declarator s sc l d ts → BeginsAt (declarator_start d) ts
declarator_begins s sc (t.nameless m) l ts e p = absurd (true_false (sym p.0.0 ∙ e))
declarator_begins s sc (t.named m n) l ts e p = one_begins m _ ts p.1
declarator_begins s sc (t.grouped m d) l ts e p = first_begins _ _ m ts (one_begins m _) p.1
declarator_begins s sc (t.calling m cdecl d) l ts e p = first_begins _ _ m ts (one_begins m _) p
declarator_begins s sc (t.pointer m c v d) l ts e p = first_begins _ _ m ts (one_begins m _) p
declarator_begins s sc (t.array m d n) l ts e p = first_begins _ _ (declarator_start d) ts (λ xs q. declarator_begins s sc d m xs e q.1) p
declarator_begins s sc (t.function m d ps) l ts e p = first_begins _ _ (declarator_start d) ts (λ xs q. declarator_begins s sc d m xs e q.1) p
