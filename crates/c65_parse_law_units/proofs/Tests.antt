-- Expressions in the places of statements, and the tokens with which statements begin (C90 6.6).
use Rattle.std.proofs.Common.{◌≡◌, ℕ, ◌≤◌, List, [], ◌∷◌, ◌++◌, append_assoc, Bool, true, false, refl, sym, ap, ◌∙◌, subst, inl, arith}
use Rattle.std.specs.Prelude.{Ok, Option, None, Some}
use Rattle.c65_base.specs.Answers.{◌>>=◌}
use Rattle.c65_base.specs.declared.names.Name.{Name}
use Rattle.c65_base.specs.declared.operators.BinaryOp.{BinaryOp}
use Rattle.c65_base.specs.declared.operators.BinaryOp.TheVariants as ops
use Rattle.c65_base.specs.declared.operators.StepKind.TheVariants as step_kinds
use Rattle.c65_base.specs.declared.refusal.Pos.{Pos}
use Rattle.c65_scan.specs.declared.token.Keyword.TheVariants as keywords
use Rattle.c65_scan.specs.declared.token.Punct.{Punct}
use Rattle.c65_scan.specs.declared.token.Punct.TheVariants as puncts
use Rattle.c65_scan.specs.declared.token.Token.{Token}
use Rattle.c65_scan.specs.declared.token.TokenKind.{TokenKind}
use Rattle.c65_scan.specs.declared.token.TokenKind.TheVariants as kinds
use Rattle.c65_tree.specs.Trees as t
use Rattle.c65_tree.specs.Lists.{of_option}
use Rattle.c65_tree.specs.Depth.{expr_depth}
use Rattle.c65_parse_names.specs.Scopes.{Blocks}
use Rattle.c65_parse.specs.Reading.{Answer, after_token, expr_read}
use Rattle.c65_parse_frames.specs.declared.sign.Mark.{Mark}
use Rattle.c65_parse_frames.specs.declared.sign.Mark.TheVariants as marks
use Rattle.c65_parse_frames.specs.Signs.{sign_of, sign_of_punct, is_mark}
use Rattle.c65_decl.specs.Here.{is_here, expected}
use Rattle.c65_decl.specs.Expressions.{test_read, case_read, ended_read, optional_read}
use Rattle.c65_parse_grammar.specs.Phrases.{token, one}
use Rattle.c65_parse_grammar.specs.Spellings.{binary_punct, assign_punct, unary_punct}
use Rattle.c65_parse_grammar.specs.Parts.{level}
use Rattle.c65_parse_grammar.specs.Scopes.{Scope, after, after_option}
use Rattle.c65_parse_grammar.specs.Expressions as g
use Rattle.c65_parse_grammar.specs.Statements.{optional_expr, test}
use Rattle.c65_parse_law_trees.specs.Read.{EndsExpr}
use Rattle.c65_parse_law_trees.proofs.Runs.{First, before_some, behind_some}
use Rattle.c65_parse_law_trees.proofs.Firsts.{begins_expr}
use Rattle.c65_parse_law_trees.proofs.Top.{exprs_are_read}
use Rattle.c65_parse_law_units.proofs.Heres.{Left, left_more, passed, is_here_is, next, when, unless, expected_is, Differs, not_here}

abbrev ended_by : (limit : ℕ) → ℕ → Mark → Blocks → List Token → Answer t.ExprTree
ended_by limit least mark scope ts = expr_read limit least scope ts >>= (λ x. expected mark x.2 x.1 >>= (λ y. Ok (x.0, y.0, y.1)))

-- an expression, and a mark that ends it
marked : (limit : ℕ) (least : ℕ) (mark : Mark) (p : Punct) (l : Pos) (sc : Scope) (outer : Blocks) (e : t.ExprTree) (xs rest : List Token) → is_mark mark (sign_of_punct p) ≡ true → EndsExpr least (kinds.Punct p) → least ≤ 13 → least ≤ level e → g.expr sc e xs → expr_depth e ≤ limit → Left rest
    → ended_by limit least mark (sc ∷ outer) (xs ++ (token (kinds.Punct p) l ∷ rest)) ≡ Ok (e, rest, after sc e ∷ outer)
marked limit least mark p l sc outer e xs rest is ends low high pe deep left =
    next (expr_read limit least (sc ∷ outer) (xs ++ (token (kinds.Punct p) l ∷ rest))) (e, token (kinds.Punct p) l ∷ rest, after sc e ∷ outer) (λ x. expected mark x.2 x.1 >>= (λ y. Ok (x.0, y.0, y.1))) (Ok (e, rest, after sc e ∷ outer))
    (exprs_are_read limit least sc outer e xs (token (kinds.Punct p) l) rest pe high deep low ends)
    (next (expected mark (after sc e ∷ outer) (token (kinds.Punct p) l ∷ rest)) (rest, after sc e ∷ outer) (λ y. Ok (e, y.0, y.1)) (Ok (e, rest, after sc e ∷ outer)) (expected_is mark (after sc e ∷ outer) (token (kinds.Punct p) l) rest is left) refl)

pub test_is : (limit : ℕ) (sc : Scope) (outer : Blocks) (e : t.ExprTree) (xs rest : List Token) → test sc e xs → expr_depth e ≤ limit → Left rest → test_read limit (sc ∷ outer) (xs ++ rest) ≡ Ok (e, rest, after sc e ∷ outer)
test_is limit sc outer e xs rest p deep left =
    before_some (λ ts. test_read limit (sc ∷ outer) ts ≡ Ok (e, rest, after sc e ∷ outer)) (kinds.Punct puncts.OpenParen) xs rest p (λ l us pu.
    behind_some (λ ts. test_read limit (sc ∷ outer) (token (kinds.Punct puncts.OpenParen) l ∷ ts) ≡ Ok (e, rest, after sc e ∷ outer)) (kinds.Punct puncts.CloseParen) us rest pu (λ k ys pe.
    let tail = ys ++ (token (kinds.Punct puncts.CloseParen) k ∷ rest) in
    next (expected marks.OpenParen (sc ∷ outer) (token (kinds.Punct puncts.OpenParen) l ∷ tail)) (tail, sc ∷ outer) (λ a. expr_read limit 0 a.1 a.0 >>= (λ x. expected marks.CloseParen x.2 x.1 >>= (λ y. Ok (x.0, y.0, y.1)))) (Ok (e, rest, after sc e ∷ outer))
    (expected_is marks.OpenParen (sc ∷ outer) (token (kinds.Punct puncts.OpenParen) l) tail refl (left_more ys (token (kinds.Punct puncts.CloseParen) k ∷ rest) tt))
    (marked limit 0 marks.CloseParen puncts.CloseParen k sc outer e ys rest refl (inl refl) (omega arith) (omega arith) pe deep left)))

pub case_is : (limit : ℕ) (sc : Scope) (outer : Blocks) (e : t.ExprTree) (k : Pos) (ys rest : List Token) → 2 ≤ level e → g.expr sc e ys → expr_depth e ≤ limit → Left rest → case_read limit (sc ∷ outer) (ys ++ (token (kinds.Punct puncts.Colon) k ∷ rest)) ≡ Ok (e, rest, after sc e ∷ outer)
case_is limit sc outer e k ys rest high pe deep left = marked limit 2 marks.Colon puncts.Colon k sc outer e ys rest refl (inl refl) (omega arith) high pe deep left

-- an expression or nothing, and the mark that ends it
pub maybe_is : (limit : ℕ) (mark : Mark) (p : Punct) (k : Pos) (sc : Scope) (outer : Blocks) (o : Option t.ExprTree) (ys rest : List Token) → Differs mark → is_mark mark (sign_of_punct p) ≡ true → EndsExpr 0 (kinds.Punct p) → optional_expr sc o ys → of_option expr_depth o ≤ limit → Left rest
    → optional_read limit mark (sc ∷ outer) (ys ++ (token (kinds.Punct p) k ∷ rest)) ≡ Ok (o, rest, after_option sc o ∷ outer)
maybe_is limit mark p k sc outer None ys rest other is ends py deep left = subst (λ ts. optional_read limit mark (sc ∷ outer) (ts ++ (token (kinds.Punct p) k ∷ rest)) ≡ Ok (None, rest, sc ∷ outer)) (sym py)
    (when (is_here mark (token (kinds.Punct p) k ∷ rest)) (Ok (None, after_token (token (kinds.Punct p) k ∷ rest), sc ∷ outer)) (ended_read limit mark (sc ∷ outer) (token (kinds.Punct p) k ∷ rest)) (is_here_is mark (token (kinds.Punct p) k) rest ∙ is)
    ∙ ap (λ x. Ok (None, x, sc ∷ outer)) (passed (token (kinds.Punct p) k) rest left))
maybe_is limit mark p k sc outer (Some e) ys rest other is ends py deep left =
    let tail = token (kinds.Punct p) k ∷ rest in
    unless (is_here mark (ys ++ tail)) (Ok (None, after_token (ys ++ tail), sc ∷ outer)) (ended_read limit mark (sc ∷ outer) (ys ++ tail)) (not_here mark sc ys tail other (begins_expr e sc ys py))
    ∙ next (expr_read limit 0 (sc ∷ outer) (ys ++ tail)) (e, tail, after sc e ∷ outer) (λ x. expected mark x.2 x.1 >>= (λ y. Ok (Some x.0, y.0, y.1))) (Ok (Some e, rest, after sc e ∷ outer))
    (exprs_are_read limit 0 sc outer e ys (token (kinds.Punct p) k) rest py (omega arith) deep (omega arith) ends)
    (next (expected mark (after sc e ∷ outer) tail) (rest, after sc e ∷ outer) (λ y. Ok (Some e, y.0, y.1)) (Ok (Some e, rest, after sc e ∷ outer)) (expected_is mark (after sc e ∷ outer) (token (kinds.Punct p) k) rest is left) refl)

-- a token that is no colon
abbrev pub NoColon : Token → Type 0
NoColon tok = is_mark marks.Colon (sign_of tok.kind) ≡ false

-- a name, and behind it no colon
abbrev pub NamedThen : TokenKind → List Token → Type 0
NamedThen (kinds.Name n) ts = First NoColon ts
NamedThen _ ts = Unit {0}

abbrev IsNoName : TokenKind → Type 0
IsNoName (kinds.Name n) = ⊥
IsNoName _ = Unit {0}

name_then : (n : Name) (ts : List Token) → First NoColon ts → NamedThen (kinds.Name n) ts
name_then n ts h = h

-- behind a name at the front stands no colon
abbrev pub Uncoloured : List Token → Type 0
Uncoloured [] = Unit {0}
Uncoloured (tok ∷ ts) = NamedThen tok.kind ts

binary_colon : (op : BinaryOp) → is_mark marks.Colon (sign_of_punct (binary_punct op)) ≡ false
binary_colon ops.Mul = refl
binary_colon ops.Div = refl
binary_colon ops.Rem = refl
binary_colon ops.Add = refl
binary_colon ops.Sub = refl
binary_colon ops.Shl = refl
binary_colon ops.Shr = refl
binary_colon ops.Lt = refl
binary_colon ops.Gt = refl
binary_colon ops.Le = refl
binary_colon ops.Ge = refl
binary_colon ops.Eq = refl
binary_colon ops.Ne = refl
binary_colon ops.BitAnd = refl
binary_colon ops.BitXor = refl
binary_colon ops.BitOr = refl

plain_mark : (l : Pos) (k : TokenKind) (ts : List Token) → IsNoName k → NamedThen k ts
plain_mark l (kinds.Name n) ts h = absurd h
plain_mark l (kinds.Keyword k) ts h = tt
plain_mark l (kinds.Number ty n) ts h = tt
plain_mark l (kinds.Text bs) ts h = tt
plain_mark l (kinds.Punct p) ts h = tt
plain_mark l kinds.End ts h = tt

marked_first : (l : Pos) (k : TokenKind) (xs ys zs rest : List Token) → xs ≡ ys ++ zs → one l k ys → IsNoName k → Uncoloured (xs ++ rest)
marked_first l k xs ys zs rest e o h = subst (λ ts. Uncoloured (ts ++ rest)) (sym (e ∙ ap (λ ts. ts ++ zs) o)) (plain_mark l k (zs ++ rest) h)

-- what is behind an operand
operand_then : (sc : Scope) (a : t.ExprTree) (p : Punct) (l : Pos) (xs ys zs ws rest : List Token) → xs ≡ ys ++ zs → zs ≡ (token (kinds.Punct p) l ∷ []) ++ ws → ((tail : List Token) → First NoColon tail → Uncoloured (ys ++ tail)) → is_mark marks.Colon (sign_of_punct p) ≡ false → Uncoloured (xs ++ rest)
operand_then sc a p l xs ys zs ws rest e f more h = subst (λ ts. Uncoloured (ts ++ rest)) (sym (e ∙ ap (λ ts. ys ++ ts) f)) (subst Uncoloured (sym (append_assoc ys (token (kinds.Punct p) l ∷ ws) rest)) (more (token (kinds.Punct p) l ∷ (ws ++ rest)) h))

abbrev ColonOf : Option Punct → Bool
ColonOf None = false
ColonOf (Some p) = is_mark marks.Colon (sign_of_punct p)

record MarkedBy (l : Pos) (us : List Token) : Type 0 where
  pub mark : Punct
  pub are : one l (kinds.Punct mark) us
  pub plain : is_mark marks.Colon (sign_of_punct mark) ≡ false

at_mark : (p : Punct) (l : Pos) (zs us ws : List Token) → zs ≡ us ++ ws → one l (kinds.Punct p) us → zs ≡ (token (kinds.Punct p) l ∷ []) ++ ws
at_mark p l zs us ws e o = e ∙ ap (λ ts. ts ++ ws) o

compound_colon : (op : BinaryOp) → ColonOf (assign_punct (Some op)) ≡ false
compound_colon ops.Mul = refl
compound_colon ops.Div = refl
compound_colon ops.Rem = refl
compound_colon ops.Add = refl
compound_colon ops.Sub = refl
compound_colon ops.Shl = refl
compound_colon ops.Shr = refl
compound_colon ops.Lt = refl
compound_colon ops.Gt = refl
compound_colon ops.Le = refl
compound_colon ops.Ge = refl
compound_colon ops.Eq = refl
compound_colon ops.Ne = refl
compound_colon ops.BitAnd = refl
compound_colon ops.BitXor = refl
compound_colon ops.BitOr = refl

assign_colon : (op : Option BinaryOp) (o : Option Punct) (l : Pos) (us : List Token) → assign_punct op ≡ o → g.assign_mark l o us → MarkedBy l us
assign_colon op None l us e h = absurd h
assign_colon None (Some p) l us e h = record { mark = p; are = h; plain = subst (λ x. ColonOf x ≡ false) e refl }
assign_colon (Some op) (Some p) l us e h = record { mark = p; are = h; plain = subst (λ x. ColonOf x ≡ false) e (compound_colon op) }

pub uncoloured : (e : t.ExprTree) (sc : Scope) (xs rest : List Token) → g.expr sc e xs → First NoColon rest → Uncoloured (xs ++ rest)
uncoloured (t.name l n) sc xs rest p h = subst (λ ts. Uncoloured (ts ++ rest)) (sym p.1) (name_then n rest h)
uncoloured (t.number l ty n) sc xs rest p h = subst (λ ts. Uncoloured (ts ++ rest)) (sym p) tt
uncoloured (t.text l bs) sc xs rest p h = subst (λ ts. Uncoloured (ts ++ rest)) (sym p) tt
uncoloured (t.paren l e) sc xs rest p h = marked_first l (kinds.Punct puncts.OpenParen) xs p.0 p.1 rest p.2 p.3 tt
uncoloured (t.index l a i) sc xs rest p h = operand_then sc a puncts.OpenBracket l xs p.0 p.1 p.4.1 rest p.2 (at_mark puncts.OpenBracket l p.1 p.4.0 p.4.1 p.4.2 p.4.3) (λ tail k. uncoloured a sc p.0 tail p.3.1 k) refl
uncoloured (t.call l f es) sc xs rest p h = operand_then sc f puncts.OpenParen l xs p.0 p.1 p.4.1 rest p.2 (at_mark puncts.OpenParen l p.1 p.4.0 p.4.1 p.4.2 p.4.3) (λ tail k. uncoloured f sc p.0 tail p.3.1 k) refl
uncoloured (t.member l e false n) sc xs rest p h = operand_then sc e puncts.Dot l xs p.0 p.1 p.4.1 rest p.2 (at_mark puncts.Dot l p.1 p.4.0 p.4.1 p.4.2 p.4.3) (λ tail k. uncoloured e sc p.0 tail p.3.1 k) refl
uncoloured (t.member l e true n) sc xs rest p h = operand_then sc e puncts.Arrow l xs p.0 p.1 p.4.1 rest p.2 (at_mark puncts.Arrow l p.1 p.4.0 p.4.1 p.4.2 p.4.3) (λ tail k. uncoloured e sc p.0 tail p.3.1 k) refl
uncoloured (t.step l step_kinds.PreInc e) sc xs rest p h = marked_first l (kinds.Punct puncts.PlusPlus) xs p.0 p.1 rest p.2 p.3 tt
uncoloured (t.step l step_kinds.PreDec e) sc xs rest p h = marked_first l (kinds.Punct puncts.MinusMinus) xs p.0 p.1 rest p.2 p.3 tt
uncoloured (t.step l step_kinds.PostInc e) sc xs rest p h = operand_then sc e puncts.PlusPlus l xs p.0 p.1 [] rest p.2 p.4 (λ tail k. uncoloured e sc p.0 tail p.3.1 k) refl
uncoloured (t.step l step_kinds.PostDec e) sc xs rest p h = operand_then sc e puncts.MinusMinus l xs p.0 p.1 [] rest p.2 p.4 (λ tail k. uncoloured e sc p.0 tail p.3.1 k) refl
uncoloured (t.unary l op e) sc xs rest p h = marked_first l (kinds.Punct (unary_punct op)) xs p.0 p.1 rest p.2 p.3 tt
uncoloured (t.sizeof_expr l e) sc xs rest p h = marked_first l (kinds.Keyword keywords.Sizeof) xs p.0 p.1 rest p.2 p.3 tt
uncoloured (t.sizeof_type l ty) sc xs rest p h = marked_first l (kinds.Keyword keywords.Sizeof) xs p.0 p.1 rest p.2 p.3 tt
uncoloured (t.cast l ty e) sc xs rest p h = marked_first l (kinds.Punct puncts.OpenParen) xs p.0 p.1 rest p.2 p.3 tt
uncoloured (t.binary l op a b) sc xs rest p h = operand_then sc a (binary_punct op) l xs p.0 p.1 p.4.1 rest p.2 (at_mark (binary_punct op) l p.1 p.4.0 p.4.1 p.4.2 p.4.3) (λ tail k. uncoloured a sc p.0 tail p.3.1 k) (binary_colon op)
uncoloured (t.and_also l a b) sc xs rest p h = operand_then sc a puncts.AndAnd l xs p.0 p.1 p.4.1 rest p.2 (at_mark puncts.AndAnd l p.1 p.4.0 p.4.1 p.4.2 p.4.3) (λ tail k. uncoloured a sc p.0 tail p.3.1 k) refl
uncoloured (t.or_else l a b) sc xs rest p h = operand_then sc a puncts.OrOr l xs p.0 p.1 p.4.1 rest p.2 (at_mark puncts.OrOr l p.1 p.4.0 p.4.1 p.4.2 p.4.3) (λ tail k. uncoloured a sc p.0 tail p.3.1 k) refl
uncoloured (t.conditional l c a b) sc xs rest p h = operand_then sc c puncts.Question l xs p.0 p.1 p.4.1 rest p.2 (at_mark puncts.Question l p.1 p.4.0 p.4.1 p.4.2 p.4.3) (λ tail k. uncoloured c sc p.0 tail p.3.1 k) refl
uncoloured (t.assign l op a b) sc xs rest p h = let m : MarkedBy l p.4.0 = assign_colon op (assign_punct op) l p.4.0 refl p.4.3 in operand_then sc a m.mark l xs p.0 p.1 p.4.1 rest p.2 (at_mark m.mark l p.1 p.4.0 p.4.1 p.4.2 m.are) (λ tail k. uncoloured a sc p.0 tail p.3.1 k) m.plain
uncoloured (t.comma l a b) sc xs rest p h = operand_then sc a puncts.Comma l xs p.0 p.1 p.4.1 rest p.2 (at_mark puncts.Comma l p.1 p.4.0 p.4.1 p.4.2 p.4.3) (λ tail k. uncoloured a sc p.0 tail p.3 k) refl
